use Rattle.std.proofs.Common.{arith}
use Rattle.cert_paths.specs.Reached.{IsReached}
use Rattle.cert_paths.proofs.TableLaws.{row_pushed}
use Rattle.cert_paths.proofs.reaching.reached_issuers.Goals as goal

pub loop-issuer-preserved : goal.loop-issuer-preserved
loop-issuer-preserved c =
    let each = c.loop-issuer.invariant.0 in
    let len = c.in_ok-push.ensures.len in (
      omega arith,
      row_pushed (IsReached c.args.first c.args.columns c.args.known.now c.args.signed.now) c.loop-issuer.reached.items c.push.new.self.items c.loop-issuer.issuer c.is_reached.result
          c.in_ok-push.ensures.items each c.loop-issuer.invariant.1 c.is_reached.ensures,
    )
