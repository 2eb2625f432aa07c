use Rattle.std.proofs.Common.{arith}
use Rattle.cert_paths.proofs.TableLaws.{row_pushed}
use Rattle.cert_paths.proofs.table.row.Goals as goal

pub loop-column-preserved : goal.loop-column-preserved
loop-column-preserved g c =
    let each = c.loop-column.invariant.0 in
    let len = c.in_ok-push.ensures.len in (
      omega arith,
      row_pushed (g.R.Relation.holds c.args.relation.now c.args.row) c.loop-column.bits.items c.push.new.self.items c.loop-column.column c.test.result c.in_ok-push.ensures.items each
          c.loop-column.invariant.1 c.test.ensures,
    )
