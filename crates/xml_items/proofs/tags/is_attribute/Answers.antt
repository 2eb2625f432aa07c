use Rattle.std.proofs.Common.{◌∙◌, true, false, refl}
use Rattle.xml_items.specs.Pairs.{pair_in}
use Rattle.xml_items.proofs.Attributes.{attribute_is}
use Rattle.xml_items.proofs.tags.is_attribute.Goals as goal

pub returns-then-is_name : goal.returns-then-is_name
returns-then-is_name c = attribute_is (pair_in c.args.pair.now) true c.is_value.result c.if-is_name.ensures c.is_value.ensures

pub returns-else-is_name : goal.returns-else-is_name
returns-else-is_name c = c.if-is_name.false ∙ attribute_is (pair_in c.args.pair.now) false _ c.if-is_name.ensures refl
