use Rattle.std.proofs.Common.{sym, arith}
use Rattle.doc_spans.proofs.Fields.{next_past, set_next}
use Rattle.doc_spans.proofs.rows.link.Goals as goal

pub returns-then-at-len : goal.returns-then-at-len
returns-then-at-len c = set_next c.args.rows.now.items c.args.at c.args.next _ (omega arith) c.index_mut.ensures.value

pub returns-else-at-len : goal.returns-else-at-len
returns-else-at-len c = sym (next_past _ _ _ (omega arith))
