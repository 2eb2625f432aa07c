use Rattle.doc_spans.proofs.Shows.{same_number}
use Rattle.doc_spans.proofs.trees.Tree.is_same.Goals as goal

pub returns : goal.returns
returns c = same_number c.self.inside.rows.items c.args.self.now c.self.invariant c.self.view_is c.args.a c.args.b c.requires.first c.requires.second
