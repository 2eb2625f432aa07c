use Rattle.std.proofs.Common.{◌≡◌, ◌-◌, length, ap, ◌∙◌, arith}
use Rattle.sample_world.specs.Joined.{listed}
use Rattle.sample_world.specs.LmsKeys.{leaf_of}
use Rattle.sample_world.proofs.Trees.{doubled, length-listed, get_or-listed, node_leaf}
use Rattle.sample_world.proofs.lms_trees.LmsTree.+node.Goals as goal

pub node-left-requires : goal.node-left-requires
node-left-requires t c =
    let low = rw (doubled c.args.n (omega arith)) at c.requires.low in
    let high = rw (doubled c.args.n (omega arith)) at c.requires.high in
    (omega arith, (omega arith, omega arith))

pub node-right-requires : goal.node-right-requires
node-right-requires t c =
    let low = rw (doubled c.args.n (omega arith)) at c.requires.low in
    let high = rw (doubled c.args.n (omega arith)) at c.requires.high in
    (omega arith, (omega arith, omega arith))

pub index-requires : goal.index-requires
index-requires t c =
    let leaves : c.self.inside.leaves.items ≡ listed (leaf_of c.self.inside.seed c.self.inside.id) 32 = c.self.invariant in
    let long : length c.self.inside.leaves.items ≡ 32 = ap length leaves ∙ length-listed _ 32 in
    let flat : c.args.n ≡ 0 = c.if-n-eq0.true in
    let low = rw flat at c.requires.low in
    let high = rw flat at c.requires.high in
    omega (arith, long, low, high)

pub returns-then-n-eq0 : goal.returns-then-n-eq0
returns-then-n-eq0 t c =
    let leaves : c.self.inside.leaves.items ≡ listed (leaf_of c.self.inside.seed c.self.inside.id) 32 = c.self.invariant in
    let flat : c.args.n ≡ 0 = c.if-n-eq0.true in
    let low = rw flat at c.requires.low in
    let high = rw flat at c.requires.high in
    let leaf = rw (leaves, get_or-listed (leaf_of c.self.inside.seed c.self.inside.id) 32 (c.args.r - 32) c.index.result.now (omega (arith, low, high))) at c.index.ensures in
    rw (← c.self.view_is, flat, node_leaf c.self.inside.seed c.self.inside.id c.args.r (omega (arith, low))) leaf
