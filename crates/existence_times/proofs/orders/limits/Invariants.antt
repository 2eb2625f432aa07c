use Rattle.std.proofs.Common.{◌≡◌, drop, length, map}
use Rattle.existence_times.specs.Kept.{row_stamp}
use Rattle.existence_times.specs.Orders.{limited}
use Rattle.existence_times.proofs.orders.limits.Given as goal

abbrev pub invariant-loop-number : goal.invariant-loop-number
invariant-loop-number l =
    (limited (map (row_stamp l.tokens) (drop l.number l.stamps)) l.times ≡ limited (map (row_stamp l.tokens) l.stamps) l.initial.times)
    × (length l.times ≡ length l.initial.times)
