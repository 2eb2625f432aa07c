-- The characters that a text is read as: as they stand; with line ends as LF (XML 1.0, "End-of-Line Handling"); or as an attribute
-- value, with its references decoded and its white space as spaces (XML 1.0, "Attribute-Value Normalization").
use Rattle.std.specs.Prelude.{ℕ, Bool, true, not, ◌==◌, List, [], ◌∷◌, is_some}
use Rattle.document_model.specs.Characters.{in_ranges, with_line_ends}
use Rattle.document_model.specs.Items.{value_of}
use Rattle.xml_items.specs.Found.{value_in}
use Rattle.doc_spans.specs.declared.readings.Reading.{Reading}
use Rattle.doc_spans.specs.declared.readings.Reading.TheVariants.{AsWritten, LineEnds, Value}

abbrev pub read_by : Reading → List ℕ → List ℕ
read_by AsWritten cs = cs
read_by LineEnds cs = with_line_ends cs
read_by Value cs = value_in cs

-- whether a text can be read so
abbrev pub is_readable : Reading → List ℕ → Bool
is_readable AsWritten cs = true
is_readable LineEnds cs = true
is_readable Value cs = is_some (value_of cs)

-- whether a character is read as it stands, whatever stands behind it
abbrev pub is_literal : Reading → ℕ → Bool
is_literal AsWritten c = true
is_literal LineEnds c = not (c == 0xD)
is_literal Value c = not (in_ranges ((0x9, 0xA) ∷ (0xD, 0xD) ∷ (0x26, 0x26) ∷ []) c)
