use Rattle.cert_paths.specs.Reached.{IsSignedTable}
use Rattle.cert_paths.proofs.reaching.reach_from_anchors.Given as goal

abbrev pub invariant-loop : goal.invariant-loop
invariant-loop l = IsSignedTable l.certs l.issuers l.reach.reached.items l.reach.signed.items
