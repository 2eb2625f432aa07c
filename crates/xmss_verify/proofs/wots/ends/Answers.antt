use Rattle.std.proofs.Common.{◌≡◌, ◌+◌, ◌-◌, ◌*◌, ◌<◌, length, refl, arith}
use Rattle.std.proofs.lemmas.List.{take_more_set}
use Rattle.std.proofs.Math.ListN.{length-set}
use Rattle.xmss_definitions.specs.Octets.{value_at}
use Rattle.xmss_definitions.specs.Wots.{chain, digit}
use Rattle.xmss_definitions.proofs.Chains.{ends_more}
use Rattle.xmss_verify.proofs.wots.ends.Goals as goal

pub chains-preserved : goal.chains-preserved
chains-preserved c =
    let i = c.chains.i in
    let s = c.digits-digits.result in
    let width : 32 * i + 32 - 32 * i ≡ 32 = omega arith in
    let is_end : c.chain.result ≡ chain c.args.prf.now c.args.leaf i (digit s i) (15 - digit s i) (value_at c.args.ots.now i) =
    rw (width, c.from-from.ensures, c.digit.ensures.value) at c.chain.ensures in
    let room : i < length c.chains.nodes = omega arith in (
      simp length-set c.chains.invariant.0,
      rw (take_more_set c.chains.nodes i c.chain.result room, ends_more, c.chains.invariant.1, is_end) refl,
    )
