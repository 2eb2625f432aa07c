use Rattle.std.proofs.Common.{◌≡◌, ◌++◌, drop, map}
use Rattle.der_values.specs.Distinct.{octets}
use Rattle.signature_model.specs.Fragments.{written_octets}
use Rattle.item_contents.specs.Contents.{list_elements}
use Rattle.item_contents.proofs.fragments.put_each_list.Given as goal

-- with those that are left, it is the whole
abbrev pub invariant-loop-list : goal.invariant-loop-list
invariant-loop-list l = l.out ++ written_octets (list_elements (map octets (drop l.list-index l.lists))) ≡ l.initial.out ++ written_octets (list_elements (map octets l.lists))
