use Rattle.signature_elements.proofs.Spotted.{all_children}
use Rattle.signature_elements.proofs.child_elements.ChildElements.of.Goals as goal

pub returns-clause-spots : goal.returns-clause-spots
returns-clause-spots c = all_children c.args.doc c.args.node _ c.requires c.children.ensures
