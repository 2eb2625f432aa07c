use Rattle.std.proofs.Common.{◌≡◌, length, ap, ◌∙◌, arith}
use Rattle.sample_world.specs.Joined.{listed}
use Rattle.sample_world.specs.XmssKeys.{leaf}
use Rattle.sample_world.specs.MtTrees.{MadeTree, tree_of, secrets_of}
use Rattle.sample_world.proofs.Trees.{doubled, length-listed, get_or-listed}
use Rattle.sample_world.proofs.XmssTrees.{node_leaf}
use Rattle.sample_world.proofs.xmssmt_trees.MtTree.+node.Goals as goal

pub index-requires : goal.index-requires
index-requires t c =
    let made : MadeTree = record { secret = c.self.inside.secret; layer = c.self.inside.layer; number = c.self.inside.number } in
    let leaves : c.self.inside.leaves.items ≡ listed (leaf (tree_of made) (secrets_of made)) 32 = c.self.invariant.1 in
    let long : length c.self.inside.leaves.items ≡ 32 = ap length leaves ∙ length-listed _ 32 in
    let flat : c.args.n ≡ 0 = c.if-n-eq0.true in
    let high = rw flat at c.requires in
    omega (arith, long, high)

pub returns-then-n-eq0 : goal.returns-then-n-eq0
returns-then-n-eq0 t c =
    let made : MadeTree = record { secret = c.self.inside.secret; layer = c.self.inside.layer; number = c.self.inside.number } in
    let leaves : c.self.inside.leaves.items ≡ listed (leaf (tree_of made) (secrets_of made)) 32 = c.self.invariant.1 in
    let flat : c.args.n ≡ 0 = c.if-n-eq0.true in
    let high = rw flat at c.requires in
    let found = rw (leaves, get_or-listed (leaf (tree_of made) (secrets_of made)) 32 c.args.i c.index.result.now (omega (arith, high))) at c.index.ensures in
    rw (← c.self.view_is, flat, node_leaf (tree_of made) (secrets_of made) c.args.i) found

pub node-left-requires : goal.node-left-requires
node-left-requires t c =
    let high = rw (doubled c.args.n (omega arith)) at c.requires in
    (omega arith, omega arith)

pub node-right-requires : goal.node-right-requires
node-right-requires t c =
    let high = rw (doubled c.args.n (omega arith)) at c.requires in
    (omega arith, omega arith)
