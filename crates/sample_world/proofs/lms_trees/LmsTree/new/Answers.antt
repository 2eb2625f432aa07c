use Rattle.std.proofs.Common.{◌≡◌, ◌∙◌, sym, rules}
use Rattle.sample_world.specs.LmsKeys.{leaf_of}
use Rattle.sample_world.proofs.Trees.{listed_none, listed_more, leaf_of_is}
use Rattle.sample_world.proofs.lms_trees.LmsTree.new.Goals as goal

pub leaves-init : goal.leaves-init
leaves-init c = rw listed_none c.new-leaves.ensures.items

pub leaves-preserved : goal.leaves-preserved
leaves-preserved c =
    let value : c.leaf.result ≡ leaf_of c.args.seed.now c.args.id.now c.leaves.q =
    rw c.one_time_key.ensures at c.leaf.ensures ∙ sym (leaf_of_is c.args.seed.now c.args.id.now c.leaves.q) in
    rw (listed_more, ← c.leaves.invariant, ← value) (search rules)
