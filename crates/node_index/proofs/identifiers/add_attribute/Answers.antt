use Rattle.std.proofs.Common.{◌∙◌, sym, string_bytes}
use Rattle.xml_items.specs.Attributes.{attribute_in}
use Rattle.node_index.proofs.IdentifierLaws.{attribute_found}
use Rattle.node_index.proofs.identifiers.add_attribute.Goals as goal

pub returns-in_ok-add : goal.returns-in_ok-add
returns-in_ok-add c =
    attribute_found c.args.doc c.args.node (string_bytes c.in_ok-gathered.field-0) (attribute_in c.args.a) c.args.index.now c.add.new.self c.requires.has c.requires.within
    c.in_ok-gathered.field-0.ok (c.in_ok-gathered.ensures ∙ c.of_value.ensures) (sym c.is_identifier.ensures ∙ c.if-is_identifier.true) c.in_ok-add.ensures.ok
