use Rattle.std.proofs.Common.{◌≡◌}
use Rattle.std.specs.Str.{chars}
use Rattle.document_model.specs.Scopes.{declared_value}
use Rattle.xml_items.specs.Attributes.{attributes_left}
use Rattle.doc_spans.proofs.scopes.declared_value.Given as goal

-- those that were passed don't declare the prefix
abbrev pub invariant-attributes : goal.invariant-attributes
invariant-attributes l = declared_value (chars l.prefix) (attributes_left l.fn.attributes) ≡ declared_value (chars l.prefix) (attributes_left l.rest)

abbrev pub decreases-attributes : goal.decreases-attributes
decreases-attributes l = l.rest.left
