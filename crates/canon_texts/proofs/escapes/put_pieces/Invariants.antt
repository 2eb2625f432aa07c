use Rattle.std.proofs.Common.{◌≡◌, ◌++◌, length, take}
use Rattle.std.specs.Prelude.{flat_map, encode_utf8_all}
use Rattle.doc_spans.specs.Pieces.{characters_left}
use Rattle.canon_texts.specs.WrittenAt.{written_at}
use Rattle.canon_texts.proofs.escapes.put_pieces.Given as goal

abbrev pub invariant-loop-piece : goal.invariant-loop-piece
invariant-loop-piece l =
    (goal.iterator-loop-piece).can_next l.piece-iterator × (goal.iterator-loop-piece).is_finite l.piece-iterator
    × (l.out ++ encode_utf8_all (flat_map (written_at l.place) (characters_left l.piece-iterator)) ≡ l.initial.out ++ encode_utf8_all (flat_map (written_at l.place) (characters_left l.fn.pieces)))
    × (take (length l.initial.out) l.out ≡ l.initial.out)
