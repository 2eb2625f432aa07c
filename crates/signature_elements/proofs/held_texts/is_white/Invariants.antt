use Rattle.std.proofs.Common.{◌≡◌}
use Rattle.std.specs.List.{list_all}
use Rattle.document_model.specs.Characters.{is_white}
use Rattle.doc_spans.specs.Pieces.{characters_left}
use Rattle.signature_elements.proofs.held_texts.is_white.Given as goal

-- the pieces that were passed are white space
abbrev pub invariant-loop-piece : goal.invariant-loop-piece
invariant-loop-piece l =
    (goal.iterator-loop-piece).can_next l.piece-iterator × (goal.iterator-loop-piece).is_finite l.piece-iterator
    × (list_all is_white (characters_left l.piece-iterator) ≡ list_all is_white (characters_left l.fn.pieces))
