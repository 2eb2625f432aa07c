use Rattle.std.proofs.Common.{◌∙◌}
use Rattle.signature_elements.specs.Names.{expanded}
use Rattle.signature_elements.proofs.Named.{called_at}
use Rattle.signature_elements.proofs.names.is_called.Goals as goal

pub returns : goal.returns
returns c = c.is_named.ensures ∙ called_at c.args.doc c.args.node (expanded c.args.name) c.requires.1
