use Rattle.std.proofs.Common.{◌≡◌}
use Rattle.doc_spans.specs.Pieces.{characters_left}
use Rattle.reference_chains.proofs.set_texts.hand_on_pieces.Given as goal

abbrev pub invariant-loop-piece : goal.invariant-loop-piece
invariant-loop-piece g l =
    (goal.iterator-loop-piece g).can_next l.piece-iterator × (goal.iterator-loop-piece g).is_finite l.piece-iterator
    × (g.T.TakesText.after l.taker (characters_left l.piece-iterator) ≡ g.T.TakesText.after l.initial.taker (characters_left l.fn.pieces))
