use Rattle.xmss_definitions.specs.Wots.{prf, keyed}
use Rattle.xmssmt_verify.proofs.hashes.Prf.at.Goals as goal

pub returns : goal.returns
unfolding prf keyed
returns c =
    let begun = rw (← c.in-Ok.ensures.cases) at c.self.invariant in
    let whole = c.finalize.ensures _ (c.update.ensures _ begun) in
    rw (← c.self.view_is) (rw c.octets.ensures at whole)
