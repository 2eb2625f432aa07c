-- Texts behind a key, word by word.
use Rattle.std.proofs.Common.{◌≡◌, ℕ, ◌+◌, ◌<◌, Bool, true, false, cond, List, [], ◌∷◌, ◌++◌, length, drop, take, get_or, map, nat_eq, refl, ap, String, Global, string_bytes}
use Rattle.std.proofs.lemmas.List.{take_more, map-append}
use Rattle.std.specs.List.{starts_with}
use Rattle.word_patterns.specs.Grammar.{texts_behind}

before_more : (b : Bool) (text : List ℕ) (xs ys rest : List (List ℕ)) → rest ≡ xs ++ ys → cond b (text ∷ rest) rest ≡ cond b (text ∷ xs) xs ++ ys
before_more true text xs ys rest e = ap (λ list. text ∷ list) e
before_more false text xs ys rest e = e

behind_append : (key : List ℕ) (xs ys : List (List ℕ)) → texts_behind key (xs ++ ys) ≡ texts_behind key xs ++ texts_behind key ys
behind_append key [] ys = refl
behind_append key (word ∷ xs) ys =
    before_more (starts_with nat_eq word key) (drop (length key) word) (texts_behind key xs) (texts_behind key ys) (texts_behind key (xs ++ ys)) (behind_append key xs ys)

-- a word that doesn't begin with the key, and one that does
pub none_behind : (key word : List ℕ) → starts_with nat_eq word key ≡ false → texts_behind key (word ∷ []) ≡ []
none_behind key word lacks = rw lacks refl

pub one_behind : (key word text : List ℕ) → starts_with nat_eq word key ≡ true → text ≡ drop (length key) word → texts_behind key (word ∷ []) ≡ text ∷ []
one_behind key word text begins is = rw (begins, is) refl

-- the texts of one more word
pub one_more : (key text : List ℕ) (words : List (String Global)) (i : ℕ) (word : String Global) → i < length words → word ≡ get_or words i word → text ≡ string_bytes word
    → texts_behind key (map string_bytes (take i words)) ++ texts_behind key (text ∷ []) ≡ texts_behind key (map string_bytes (take (i + 1) words))
one_more key text words i word lt is at = rw (take_more words i word lt, ← is, map-append, behind_append, at) refl
