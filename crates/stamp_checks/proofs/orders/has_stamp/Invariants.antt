use Rattle.std.specs.List.{list_any}
use Rattle.stamp_checks.proofs.Looking.{Passed}
use Rattle.stamp_checks.proofs.Told.{shows_kind}
use Rattle.stamp_checks.proofs.orders.has_stamp.Given as goal

abbrev pub invariant-loop-number : goal.invariant-loop-number
invariant-loop-number l = Passed (list_any (shows_kind l.kind)) l.parts.properties l.number
