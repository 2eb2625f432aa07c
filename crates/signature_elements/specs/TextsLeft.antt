-- The characters of text nodes that an iterator has left.
use Rattle.std.specs.Prelude.{◌≡◌, ℕ, false, List, [], ◌++◌, length, map, Option, None, Some}
use Rattle.std.specs.Iterator.{Count, at_most}
use Rattle.document_model.specs.Characters.{is_empty}
use Rattle.doc_spans.specs.declared.texts.Piece.{Piece}
use Rattle.doc_spans.specs.Pieces.{characters_in, characters_left}
use Rattle.doc_spans.specs.Rest.{rest}
use Rattle.doc_spans.specs.Seen.{document_in, shown_in}
use Rattle.doc_spans.specs.Shown.{path_at}
use Rattle.signature_elements.specs.declared.text_pieces.TextPieces.{TextPieces}
use Rattle.signature_elements.specs.Holding.{texts_at}

abbrev pub text_left : TextPieces → List ℕ
text_left it = characters_left it.pieces ++ texts_at (document_in it.doc) (map (path_at (shown_in it.doc)) (rest it.children))

-- a call gave the first of them, at least one, or none was left
abbrev pub GivesText : TextPieces → Option Piece → TextPieces → Type 0
GivesText before None now = (text_left before ≡ []) × (text_left now ≡ [])
GivesText before (Some piece) now = (text_left before ≡ characters_in piece ++ text_left now) × (is_empty (characters_in piece) ≡ false)

abbrev pub characters_count : TextPieces → Count
characters_count it = at_most (length (text_left it))
