use Rattle.std.proofs.Common.{◌≡◌, ◌≤◌, ◌++◌, length, drop}
use Rattle.insertions.specs.Placed.{RiseFrom, last_from}
use Rattle.insertions.proofs.WithAll.{copied}
use Rattle.insertions.proofs.pieces.apply.Given as goal

-- what is left goes behind what is there
abbrev pub invariant-loop-piece : goal.invariant-loop-piece
invariant-loop-piece l = RiseFrom l.from (drop l.piece-index l.pieces)
    × (last_from l.from (drop l.piece-index l.pieces) ≤ length l.bytes)
    × (l.new ++ copied l.from (drop l.piece-index l.pieces) l.bytes ≡ copied 0 l.pieces l.bytes)
