use Rattle.std.proofs.Common.{◌∙◌}
use Rattle.signature_elements.proofs.Named.{attribute_there}
use Rattle.signature_elements.proofs.attributes.attribute.Goals as goal

pub returns : goal.returns
returns c = c.attribute.ensures ∙ attribute_there c.args.doc c.args.node c.args.local.now c.requires.1
