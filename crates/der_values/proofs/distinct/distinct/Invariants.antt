use Rattle.std.proofs.Common.{◌≡◌, ◌≤◌, ◌*◌, length}
use Rattle.der_values.specs.Distinct.{ArePassed}
use Rattle.der_values.specs.View.{elements_left}
use Rattle.der_values.proofs.distinct.distinct.Given as goal

abbrev pub invariant-loop : goal.invariant-loop
invariant-loop l = record {
  passed : ArePassed l.content (elements_left l.rest) l.passed l.until;
  count : l.passed ≡ l.counter * 4096;
}
