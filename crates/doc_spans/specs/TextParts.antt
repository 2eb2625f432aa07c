-- The parts of a text in the code.
use Rattle.std.specs.Prelude.{◌≡◌, ℕ, false, List, [], ◌∷◌, length}
use Rattle.std.specs.Str.{chars}
use Rattle.document_model.specs.Characters.{with_line_ends, is_empty}
use Rattle.std.specs.Char.{IsScalar}
use Rattle.doc_spans.specs.declared.parts.Part.{Part}
use Rattle.doc_spans.specs.declared.parts.Part.TheVariants.{Literal, Decoded, Section}
use Rattle.xml_items.specs.declared.items.Found.{Found}
use Rattle.xml_items.specs.declared.items.Found.TheVariants.{Declaration, StartTag, EmptyTag, EndTag, Character, Reference, Cdata, Comment, Instruction}

-- the characters of a part of a text
abbrev pub part_in : Part → List ℕ
part_in (Literal text) = chars text.now
part_in (Decoded c) = c ∷ []
part_in (Section text) = with_line_ends (chars text.now)

-- characters that stand so are one at least
abbrev pub IsSomePart : Part → Type 0
IsSomePart (Literal text) = is_empty (chars text.now) ≡ false
IsSomePart (Decoded c) = Unit {0}
IsSomePart (Section text) = Unit {0}

-- how many of its bytes are still to be read
abbrev pub part_size : Part → ℕ
part_size (Literal text) = 0
part_size (Decoded c) = 0
part_size (Section text) = length text.now

-- the character of a scanned reference is one
abbrev pub IsScalarFound : Found → Type 0
IsScalarFound (Reference c) = IsScalar c
IsScalarFound Declaration = Unit {0}
IsScalarFound (StartTag name attributes) = Unit {0}
IsScalarFound (EmptyTag name attributes) = Unit {0}
IsScalarFound (EndTag name) = Unit {0}
IsScalarFound (Character c) = Unit {0}
IsScalarFound (Cdata text) = Unit {0}
IsScalarFound (Comment text) = Unit {0}
IsScalarFound (Instruction target content) = Unit {0}

-- how many bytes a CDATA section holds
abbrev pub section_size : Found → ℕ
section_size (Reference c) = 0
section_size Declaration = 0
section_size (StartTag name attributes) = 0
section_size (EmptyTag name attributes) = 0
section_size (EndTag name) = 0
section_size (Character c) = 0
section_size (Cdata text) = length text.now
section_size (Comment text) = 0
section_size (Instruction target content) = 0
