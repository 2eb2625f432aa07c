use Rattle.std.proofs.Common.{◌≡◌, ◌++◌, string_bytes}
use Rattle.std.specs.Str.{chars}
use Rattle.doc_spans.specs.Pieces.{characters_left}
use Rattle.node_index.proofs.texts.push_pieces.Given as goal

-- the characters so far and those that are left are all
abbrev pub invariant-loop-piece : goal.invariant-loop-piece
invariant-loop-piece l =
    (goal.iterator-loop-piece).can_next l.piece-iterator × (goal.iterator-loop-piece).is_finite l.piece-iterator
    × (chars (string_bytes l.text) ++ characters_left l.piece-iterator ≡ chars (string_bytes l.fn.text) ++ characters_left l.fn.pieces)
