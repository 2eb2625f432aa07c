use Rattle.std.proofs.Common.{◌≡◌}
use Rattle.document_model.specs.Scopes.{value_among}
use Rattle.xml_items.specs.Attributes.{attributes_left}
use Rattle.node_sets.specs.Scopes.{scope_of, named}
use Rattle.node_sets.proofs.scopes.attribute_among.Given as goal

-- those that were passed have other names
abbrev pub invariant-attributes : goal.invariant-attributes
invariant-attributes l =
    value_among (scope_of l.doc l.node) (named l.space l.local) (attributes_left l.fn.attributes) ≡ value_among (scope_of l.doc l.node) (named l.space l.local) (attributes_left l.rest)

abbrev pub decreases-attributes : goal.decreases-attributes
decreases-attributes l = l.rest.left
