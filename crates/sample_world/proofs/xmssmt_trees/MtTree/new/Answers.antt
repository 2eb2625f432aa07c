use Rattle.std.proofs.Common.{◌≡◌, ◌∙◌, sym, rules}
use Rattle.sample_world.specs.World.{xmssmt_secret}
use Rattle.sample_world.specs.XmssKeys.{leaf}
use Rattle.sample_world.proofs.Trees.{listed_none, listed_more}
use Rattle.sample_world.proofs.XmssTrees.{leaf_is}
use Rattle.sample_world.proofs.xmssmt_trees.MtTree.new.Goals as goal

pub leaves-init : goal.leaves-init
leaves-init c = rw listed_none c.new-leaves.ensures.items

pub leaves-preserved : goal.leaves-preserved
leaves-preserved c =
    let x = xmssmt_secret c.args.secret.now c.args.layer c.args.number in
    let value : c.l_tree.result ≡ leaf c.new-prf.result x c.leaves.l =
    rw c.chain_ends-ends.ensures at c.l_tree.ensures ∙ sym (leaf_is c.new-prf.result x c.leaves.l) in
    rw (listed_more, ← c.leaves.invariant, ← value) (search rules)
