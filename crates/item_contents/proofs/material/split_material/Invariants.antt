use Rattle.std.proofs.Common.{length, map, ◌-◌}
use Rattle.der_values.specs.Distinct.{octets}
use Rattle.item_contents.proofs.Splitting.{SoFar}
use Rattle.item_contents.proofs.material.split_material.Given as goal

abbrev pub invariant-loop-at : goal.invariant-loop-at
invariant-loop-at l = SoFar l.bytes l.at (map octets l.material.certificates.items) (map octets l.material.lists.items)

abbrev pub decreases-loop-at : goal.decreases-loop-at
decreases-loop-at l = length l.bytes - l.at
