-- Words of a list, and what parts them.
use Rattle.std.specs.Prelude.{ℕ, Bool, true, false, ◌==◌, List, [], ◌∷◌, codes}
use Rattle.document_model.specs.Characters.{is_white}

abbrev pub is_comma : ℕ → Bool
is_comma c = c == 0x2C

abbrev pub parts : Bool → (ℕ → Bool)
parts true = is_comma
parts false = is_white

-- the word that stands for a prefix
abbrev pub word_of : List ℕ → List ℕ
word_of [] = codes "#default"
word_of (c ∷ prefix) = c ∷ prefix
