use Rattle.std.proofs.Common.{sym, arith}
use Rattle.doc_spans.proofs.Fields.{end_past, set_end}
use Rattle.doc_spans.proofs.rows.end_at.Goals as goal

pub returns-then-at-len : goal.returns-then-at-len
returns-then-at-len c = set_end c.args.rows.now.items c.args.at c.args.end _ (omega arith) c.index_mut.ensures.value

pub returns-else-at-len : goal.returns-else-at-len
returns-else-at-len c = sym (end_past _ _ _ (omega arith))
