use Rattle.cert_paths.specs.Rows.{AreListsTo}
use Rattle.cert_paths.proofs.gather.list_rows.Given as goal

abbrev pub invariant-loop-number : goal.invariant-loop-number
invariant-loop-number l = AreListsTo l.pool l.rows.items l.number
