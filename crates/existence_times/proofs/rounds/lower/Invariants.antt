use Rattle.std.proofs.Common.{◌≡◌, drop, map, length}
use Rattle.acceptance.specs.Rounds.{lowered}
use Rattle.existence_times.specs.Kept.{number_of}
use Rattle.existence_times.proofs.rounds.lower.Given as goal

abbrev pub invariant-loop-k : goal.invariant-loop-k
invariant-loop-k l =
    (lowered l.bound (map number_of (drop l.k l.covers)) l.times ≡ lowered l.bound (map number_of l.covers) l.initial.times)
    × (length l.times ≡ length l.initial.times)
