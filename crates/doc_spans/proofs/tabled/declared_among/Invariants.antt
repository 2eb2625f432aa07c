use Rattle.std.proofs.Common.{◌≡◌, length, map}
use Rattle.std.specs.Str.{chars}
use Rattle.document_model.specs.Scopes.{declared_value}
use Rattle.xml_items.specs.Attributes.{attribute_in}
use Rattle.doc_spans.proofs.tabled.declared_among.Given as goal

-- those that were passed don't declare the prefix
abbrev pub invariant-attributes : goal.invariant-attributes
invariant-attributes l = declared_value (chars l.prefix) (map attribute_in l.fn.attributes) ≡ declared_value (chars l.prefix) (map attribute_in l.rest)

abbrev pub decreases-attributes : goal.decreases-attributes
decreases-attributes l = length l.rest
