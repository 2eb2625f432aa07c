-- Words that begin with one of several keys: what each of them is, and the text behind its key, in the order of the words.
use Rattle.std.specs.Prelude.{ℕ, List, [], ◌∷◌, length, drop, nat_eq, Option, None, Some, if◌then◌else◌}
use Rattle.std.specs.Borrow.{Bor}
use Rattle.std.specs.List.{starts_with, cons_option}

-- what a word is, by the first of the keys that it begins with, and the text behind that key
abbrev pub keyed_text : {K : Type 0} → List (List ℕ × K) → List ℕ → Option (K × List ℕ)
keyed_text [] word = None
keyed_text (key ∷ keys) word = if starts_with nat_eq word key.0 then Some (key.1, drop (length key.0) word) else keyed_text keys word

-- of each word that begins with one of the keys
abbrev pub keyed_texts : {K : Type 0} → List (List ℕ × K) → List (List ℕ) → List (K × List ℕ)
keyed_texts keys [] = []
keyed_texts keys (word ∷ words) = cons_option (keyed_text keys word) (keyed_texts keys words)

-- a key that is lent, with what it stands for
abbrev pub key_now : {K : Type 0} → Bor (List ℕ) × K → List ℕ × K
key_now key = (key.0.now, key.1)

-- a text that is lent, with what it is
abbrev pub keyed_now : {K : Type 0} → K × Bor (List ℕ) → K × List ℕ
keyed_now item = (item.0, item.1.now)
