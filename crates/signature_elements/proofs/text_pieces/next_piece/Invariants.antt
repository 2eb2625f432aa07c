use Rattle.std.proofs.Common.{◌≡◌}
use Rattle.doc_spans.specs.Pieces.{characters_left, size_left}
use Rattle.signature_elements.proofs.text_pieces.next_piece.Given as goal

-- the pieces that were passed are empty
abbrev pub invariant-pieces : goal.invariant-pieces
invariant-pieces l = characters_left l.pieces ≡ characters_left l.fn.pieces

abbrev pub decreases-pieces : goal.decreases-pieces
decreases-pieces l = size_left l.pieces
