use Rattle.std.proofs.Common.{sym, arith}
use Rattle.doc_spans.proofs.Fields.{parent_past, get_parent}
use Rattle.doc_spans.proofs.rows.parent_at.Goals as goal

pub returns-then-at-len : goal.returns-then-at-len
returns-then-at-len c = get_parent c.args.rows.now.items c.args.at c.index.result.now (omega arith) c.index.ensures

pub returns-else-at-len : goal.returns-else-at-len
returns-else-at-len c = sym (parent_past c.args.at c.args.rows.now.items (omega arith))
