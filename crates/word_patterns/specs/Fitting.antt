-- What the words of a pattern have behind the key of one of its parts.
use Rattle.std.specs.Prelude.{◌≡◌, ℕ, ◌≤◌, List, [], ◌∷◌, length, Bool, true, not, ◌&&◌, nat_eq, All}
use Rattle.std.specs.List.{list_all, starts_with}
use Rattle.word_patterns.specs.Grammar.{WordForm, Plain, Keyed, Part, texts_behind}

-- no word of the form begins with the key
abbrev pub is_apart : List ℕ → WordForm → Bool
is_apart key (Plain text) = not (starts_with nat_eq text key)
is_apart key (Keyed other is_text) = not (starts_with nat_eq key other) && not (starts_with nat_eq other key)

-- and with none of some keys
abbrev pub is_apart_of : {K : Type 0} → List (List ℕ × K) → WordForm → Bool
is_apart_of keys form = list_all (λ key. is_apart key.0 form) keys

-- no word of the parts begins with one of the keys
abbrev pub are_apart : {K : Type 0} → List (List ℕ × K) → List Part → Bool
are_apart keys parts = list_all (λ part. list_all (is_apart_of keys) part.forms) parts

-- one key, which stands for nothing
abbrev pub alone : List ℕ → List (List ℕ × Unit {0})
alone key = (key, tt) ∷ []

-- a part of words with a key
abbrev pub keyed_part : List ℕ → (List ℕ → Bool) → ℕ → ℕ → Part
keyed_part key is_text least most = record { forms = Keyed key is_text ∷ []; least = least; most = most }

-- the texts behind the key are as many as the part allows, and each is of the part's form
pub record AreTextsOf (key : List ℕ) (is_text : List ℕ → Bool) (least most : ℕ) (words : List (List ℕ)) : Type 0 where
  pub enough : least ≤ length (texts_behind key words)
  pub few : length (texts_behind key words) ≤ most
  pub each : All (λ text. is_text text ≡ true) (texts_behind key words)
