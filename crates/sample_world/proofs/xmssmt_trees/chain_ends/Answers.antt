use Rattle.std.proofs.Common.{◌≡◌, ◌<◌, length, refl, arith}
use Rattle.std.proofs.lemmas.List.{take_more_set}
use Rattle.std.proofs.Math.ListN.{length-set}
use Rattle.sample_world.specs.World.{xmssmt_secret}
use Rattle.sample_world.specs.XmssKeys.{chain_end}
use Rattle.sample_world.proofs.Trees.{listed_none, listed_more}
use Rattle.sample_world.proofs.xmssmt_trees.chain_ends.Goals as goal

pub chains-init : goal.chains-init
chains-init c = (refl, rw listed_none refl)

pub chains-preserved : goal.chains-preserved
chains-preserved c =
    let i = c.chains.i in
    let is_end : c.chain.result ≡ chain_end c.args.prf.now (xmssmt_secret c.args.secret.now c.args.layer c.args.number) c.args.leaf i =
    rw c.xmssmt_secret-start.ensures at c.chain.ensures in
    let room : i < length c.chains.ends = omega arith in (
      simp length-set c.chains.invariant.0,
      rw (take_more_set c.chains.ends i c.chain.result room, listed_more, c.chains.invariant.1, is_end) refl,
    )
