use Rattle.std.proofs.Common.{◌≡◌, length, map}
use Rattle.der_values.specs.Distinct.{IsBlock, octets}
use Rattle.der_values.specs.View.{elements_left}
use Rattle.der_values.proofs.distinct.next_block.Given as goal

abbrev pub invariant-loop : goal.invariant-loop
invariant-loop l = record {
  block : IsBlock l.counter (elements_left l.initial.rest) (elements_left l.rest) (map octets l.block.items);
  len : length l.block.items ≡ l.counter;
}
