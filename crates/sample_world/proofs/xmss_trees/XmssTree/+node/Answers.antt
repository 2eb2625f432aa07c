use Rattle.std.proofs.Common.{◌≡◌, length, ap, ◌∙◌, arith}
use Rattle.xmss_definitions.specs.Address.{only_tree}
use Rattle.sample_world.specs.Joined.{listed}
use Rattle.sample_world.specs.World.{xmss_secret, xmss_seed}
use Rattle.sample_world.specs.XmssKeys.{leaf}
use Rattle.sample_world.proofs.Trees.{doubled, length-listed, get_or-listed}
use Rattle.sample_world.proofs.XmssTrees.{node_leaf}
use Rattle.sample_world.proofs.xmss_trees.XmssTree.+node.Goals as goal

pub index-requires : goal.index-requires
index-requires t c =
    let leaves : c.self.inside.leaves.items ≡ listed (leaf (only_tree (xmss_seed c.self.inside.secret)) (xmss_secret c.self.inside.secret)) 1024 = c.self.invariant.1 in
    let long : length c.self.inside.leaves.items ≡ 1024 = ap length leaves ∙ length-listed _ 1024 in
    let flat : c.args.n ≡ 0 = c.if-n-eq0.true in
    let high = rw flat at c.requires in
    omega (arith, long, high)

pub returns-then-n-eq0 : goal.returns-then-n-eq0
returns-then-n-eq0 t c =
    let s = c.self.inside.secret in
    let leaves : c.self.inside.leaves.items ≡ listed (leaf (only_tree (xmss_seed s)) (xmss_secret s)) 1024 = c.self.invariant.1 in
    let flat : c.args.n ≡ 0 = c.if-n-eq0.true in
    let high = rw flat at c.requires in
    let found = rw (leaves, get_or-listed (leaf (only_tree (xmss_seed s)) (xmss_secret s)) 1024 c.args.i c.index.result.now (omega (arith, high))) at c.index.ensures in
    rw (← c.self.view_is, flat, node_leaf (only_tree (xmss_seed s)) (xmss_secret s) c.args.i) found

pub node-left-requires : goal.node-left-requires
node-left-requires t c =
    let high = rw (doubled c.args.n (omega arith)) at c.requires in
    (omega arith, omega arith)

pub node-right-requires : goal.node-right-requires
node-right-requires t c =
    let high = rw (doubled c.args.n (omega arith)) at c.requires in
    (omega arith, omega arith)
