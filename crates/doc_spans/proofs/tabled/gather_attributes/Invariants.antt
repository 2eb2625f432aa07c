use Rattle.std.proofs.Common.{◌≡◌, ◌++◌, map}
use Rattle.xml_items.specs.Attributes.{attribute_in, attributes_left}
use Rattle.doc_spans.proofs.tabled.gather_attributes.Given as goal

-- those that were passed are in the table
abbrev pub invariant-attributes : goal.invariant-attributes
invariant-attributes l = attributes_left l.fn.attributes ≡ map attribute_in l.table.items ++ attributes_left l.rest

abbrev pub decreases-attributes : goal.decreases-attributes
decreases-attributes l = l.rest.left
