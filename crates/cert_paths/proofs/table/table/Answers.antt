use Rattle.std.proofs.Common.{arith}
use Rattle.cert_paths.proofs.TableLaws.{table_pushed}
use Rattle.cert_paths.proofs.table.table.Goals as goal

pub loop-number-preserved : goal.loop-number-preserved
loop-number-preserved g c =
    let each = c.loop-number.invariant.0 in
    let len = c.in_ok-push.ensures.len in (
      omega arith,
      table_pushed (g.R.Relation.holds c.args.relation.now) (g.R.Relation.columns c.args.relation.now) c.loop-number.rows.items c.push.new.self.items c.loop-number.number
          c.in_ok-bits.bits c.in_ok-push.ensures.items each c.loop-number.invariant.1 c.in_ok-bits.ensures,
    )
