-- What the patterns of the code mean.
use Rattle.std.specs.Prelude.{ℕ, List, [], ◌∷◌, map}
use Rattle.std.specs.Borrow.{Bor}
use Rattle.word_patterns.specs.Grammar.{Plain, Keyed, WordForm, Part}
use Rattle.word_patterns.specs.TextForms.{is_of_text}
use Rattle.word_patterns.specs.declared.patterns.WordForm as code
use Rattle.word_patterns.specs.declared.patterns.WordForm.TheVariants as forms
use Rattle.word_patterns.specs.declared.patterns.Part as parts
use Rattle.word_patterns.specs.declared.search.Cursor.{Cursor}

abbrev pub form_in : code.WordForm → WordForm
form_in (forms.Plain text) = Plain text.now
form_in (forms.Keyed key text) = Keyed key.now (is_of_text text)

abbrev pub part_in : parts.Part → Part
part_in part = record { forms = map form_in part.forms.now; least = part.least; most = part.most }

abbrev pub pattern_in : List parts.Part → List Part
pattern_in pattern = map part_in pattern

abbrev pub patterns_in : List (Bor (List parts.Part)) → List (List Part)
patterns_in patterns = map (λ pattern. pattern_in pattern.now) patterns

-- a pattern, where the first part has these counts
abbrev pub with_counts : ℕ → ℕ → List Part → List Part
with_counts least most [] = []
with_counts least most (part ∷ parts) = record { forms = part.forms; least = least; most = most } ∷ parts

abbrev pub cursor_in : Cursor → List Part
cursor_in cursor = with_counts cursor.least cursor.most (pattern_in cursor.parts.now)

abbrev pub cursors_in : List Cursor → List (List Part)
cursors_in cursors = map cursor_in cursors
