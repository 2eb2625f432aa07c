-- What is written for a character at a place: Canonical XML 1.0, "Processing Model", "Text Nodes" and "Attribute Nodes"; nothing is
-- escaped in a comment or a processing instruction.
use Rattle.std.specs.Prelude.{ℕ, List, [], ◌∷◌}
use Rattle.document_model.specs.Canonical.{text_character, value_character}
use Rattle.canon_texts.specs.declared.places.Place.{Place}
use Rattle.canon_texts.specs.declared.places.Place.TheVariants.{Text, Value, Markup}

abbrev pub written_at : Place → ℕ → List ℕ
written_at Text c = text_character c
written_at Value c = value_character c
written_at Markup c = c ∷ []
