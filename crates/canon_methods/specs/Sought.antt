-- Whether a word is among those of a list, from a place in the list on.
use Rattle.std.specs.Prelude.{ℕ, Bool, true, false, ◌||◌, List, [], ◌∷◌}
use Rattle.std.specs.Str.{chars}
use Rattle.document_model.specs.Characters.{◌is◌}
use Rattle.document_model.specs.Canonical.{is_among}
use Rattle.document_model.specs.Methods.{cut_at}
use Rattle.canon_methods.specs.declared.sought.Sought.{Sought}
use Rattle.canon_methods.specs.declared.sought.Sought.TheVariants.{Found, Word, Other}

-- by the words from the place on, of which the first may have begun before it
abbrev pub holds_if_read : List ℕ → Sought → List (List ℕ) → Bool
holds_if_read word Found words = true
holds_if_read word (Word left) [] = false
holds_if_read word (Word left) (first ∷ others) = (chars left.now is first) || is_among word others
holds_if_read word Other [] = false
holds_if_read word Other (first ∷ others) = is_among word others

abbrev pub holds : (ℕ → Bool) → List ℕ → Sought → List ℕ → Bool
holds test word sought text = holds_if_read word sought (cut_at test text)
