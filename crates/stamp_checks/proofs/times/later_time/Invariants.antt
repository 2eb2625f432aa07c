use Rattle.stamp_checks.proofs.Looking.{first_some, Passed}
use Rattle.stamp_checks.proofs.Told.{later_of}
use Rattle.stamp_checks.proofs.times.later_time.Given as goal

abbrev pub invariant-loop-number : goal.invariant-loop-number
invariant-loop-number l = Passed (first_some (later_of l.fn.time)) l.parts.properties l.number
