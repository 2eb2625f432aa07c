use Rattle.doc_spans.specs.Seen.{path_in}
use Rattle.doc_spans.proofs.Calls.{name_below}
use Rattle.doc_spans.proofs.documents.Doc.children.Goals as goal

pub returns : goal.returns
returns c = name_below c.args.self (path_in c.args.self c.args.node) _ c.first_child.ensures.children c.first_child.ensures.numbered
