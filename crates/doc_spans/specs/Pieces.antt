-- Decoded characters that are given in pieces.
use Rattle.std.specs.Prelude.{◌≡◌, List, ℕ, ◌+◌, ◌-◌, [], ◌∷◌, ◌++◌, length, Option, None, Some}
use Rattle.std.specs.Str.{chars}
use Rattle.std.specs.Iterator.{Count, at_most}
use Rattle.doc_spans.specs.ReadAs.{read_by}
use Rattle.doc_spans.specs.Texts.{text_between}
use Rattle.doc_spans.specs.declared.readings.Front.{Front}
use Rattle.doc_spans.specs.declared.text_items.TextItems.{TextItems}
use Rattle.doc_spans.specs.declared.texts.Piece.{Piece}
use Rattle.doc_spans.specs.declared.texts.Piece.TheVariants.{Run, One}
use Rattle.doc_spans.specs.declared.texts.Pieces.{Pieces}

-- the characters of a piece
abbrev pub characters_in : Piece → List ℕ
characters_in (Run text) = chars text.now
characters_in (One c) = c ∷ []

-- the characters that a text is read as
abbrev pub front_left : Front → List ℕ
front_left front = read_by front.reading (chars front.text.now)

-- the characters of the items of a text that are left
abbrev pub items_left : TextItems → List ℕ
items_left items = text_between items.bytes.now items.at items.end

-- the characters that are still to come
abbrev pub characters_left : Pieces → List ℕ
characters_left pieces = front_left pieces.front ++ items_left pieces.items

-- a call gave the first of them, or none was left
abbrev pub GivesFirst : Pieces → Option Piece → Pieces → Type 0
GivesFirst before None now = (characters_left before ≡ []) × (characters_left now ≡ [])
GivesFirst before (Some piece) now = characters_left before ≡ characters_in piece ++ characters_left now

-- how many bytes are left
abbrev pub items_size : TextItems → ℕ
items_size items = items.end - items.at

abbrev pub size_left : Pieces → ℕ
size_left pieces = length pieces.front.text.now + items_size pieces.items

-- no more pieces come than there are bytes
abbrev pub pieces_left : Pieces → Count
pieces_left pieces = at_most (size_left pieces)
