use Rattle.std.proofs.Common.{◌≡◌, take}
use Rattle.sample_cases.proofs.times.listed.Given as goal

abbrev pub invariant-loop-number : goal.invariant-loop-number
invariant-loop-number l = l.list.items ≡ take l.number l.times
