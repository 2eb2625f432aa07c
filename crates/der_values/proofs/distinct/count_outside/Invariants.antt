use Rattle.std.proofs.Common.{map}
use Rattle.der_values.specs.Distinct.{AreOutside, octets}
use Rattle.der_values.specs.View.{elements_left}
use Rattle.der_values.proofs.distinct.count_outside.Given as goal

abbrev pub invariant-loop-count : goal.invariant-loop-count
invariant-loop-count l = AreOutside l.count (elements_left l.initial.rest) (elements_left l.rest) (map octets l.block)
