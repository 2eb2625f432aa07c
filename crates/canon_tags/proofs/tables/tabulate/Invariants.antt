use Rattle.std.proofs.Common.{◌≡◌, ◌++◌, map}
use Rattle.xml_items.specs.Attributes.{attribute_in, attributes_left}
use Rattle.canon_tags.proofs.tables.tabulate.Given as goal

-- those that were taken, and then those that are left
abbrev pub invariant-attributes : goal.invariant-attributes
invariant-attributes l = map attribute_in l.table.items ++ attributes_left l.rest ≡ map attribute_in l.initial.table.items ++ attributes_left l.fn.attributes

abbrev pub decreases-attributes : goal.decreases-attributes
decreases-attributes l = l.rest.left
