use Rattle.doc_spans.proofs.InOrder.{rows_in_order}
use Rattle.doc_spans.proofs.documents.Doc.is_before.Goals as goal

pub returns : goal.returns
returns c =
    rows_in_order c.args.self.bytes.now c.args.self.tree.now c.args.a.0 c.args.b.0 c.row.result.now c.row-2.result.now c.args.self.whole c.row.ensures c.row-2.ensures
