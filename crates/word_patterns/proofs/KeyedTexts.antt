-- Words that begin with one of several keys, word by word.
use Rattle.std.proofs.Common.{◌≡◌, ℕ, ◌+◌, ◌<◌, List, [], ◌∷◌, ◌++◌, length, take, get_or, map, refl, ap, String, Global, string_bytes}
use Rattle.std.specs.Prelude.{Option, None, Some}
use Rattle.std.specs.List.{cons_option}
use Rattle.std.proofs.lemmas.List.{take_more, map-append}
use Rattle.word_patterns.specs.Keyed.{keyed_text, keyed_texts}

any_append : {A : Type 0} (x : Option A) (xs ys rest : List A) → rest ≡ xs ++ ys → cons_option x rest ≡ cons_option x xs ++ ys
any_append None xs ys rest e = e
any_append (Some x) xs ys rest e = ap (λ list. x ∷ list) e

pub keyed_append : {K : Type 0} (keys : List (List ℕ × K)) (xs ys : List (List ℕ)) → keyed_texts keys (xs ++ ys) ≡ keyed_texts keys xs ++ keyed_texts keys ys
keyed_append keys [] ys = refl
keyed_append keys (word ∷ xs) ys =
    any_append (keyed_text keys word) (keyed_texts keys xs) (keyed_texts keys ys) (keyed_texts keys (xs ++ ys)) (keyed_append keys xs ys)

-- a word that begins with none of the keys, and one that begins with one
pub none_keyed : {K : Type 0} (keys : List (List ℕ × K)) (word : List ℕ) → None ≡ keyed_text keys word → keyed_texts keys (word ∷ []) ≡ []
none_keyed keys word e = rw (← e) refl

pub one_keyed : {K : Type 0} (keys : List (List ℕ × K)) (word : List ℕ) (item : K × List ℕ) → Some item ≡ keyed_text keys word → keyed_texts keys (word ∷ []) ≡ item ∷ []
one_keyed keys word item e = rw (← e) refl

-- the texts of one more word
pub one_more : {K : Type 0} (keys : List (List ℕ × K)) (text : List ℕ) (words : List (String Global)) (i : ℕ) (word : String Global) → i < length words → word ≡ get_or words i word → text ≡ string_bytes word
    → keyed_texts keys (map string_bytes (take i words)) ++ keyed_texts keys (text ∷ []) ≡ keyed_texts keys (map string_bytes (take (i + 1) words))
one_more keys text words i word lt is at = rw (take_more words i word lt, ← is, map-append, keyed_append, at) refl
