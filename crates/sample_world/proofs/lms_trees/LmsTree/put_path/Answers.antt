use Rattle.std.proofs.Common.{append_assoc, refl, arith, rules}
use Rattle.std.proofs.lemmas.List.{append-nil}
use Rattle.sample_world.proofs.Trees.{joined_none, joined_more, beside_in_tree, halved}
use Rattle.sample_world.proofs.lms_trees.LmsTree.put_path.Goals as goal

pub heights-init : goal.heights-init
heights-init c = (omega arith, rw (joined_none, append-nil) refl)

pub node-value-requires-clause-low : goal.node-value-requires-clause-low
node-value-requires-clause-low c =
    rw (c.sibling.ensures, c.heights.invariant.0) ((beside_in_tree c.args.q c.heights.n c.requires (omega arith)).low)

pub node-value-requires-clause-high : goal.node-value-requires-clause-high
node-value-requires-clause-high c =
    rw (c.sibling.ensures, c.heights.invariant.0) ((beside_in_tree c.args.q c.heights.n c.requires (omega arith)).high)

pub heights-preserved : goal.heights-preserved
heights-preserved c =
    let value = rw (c.sibling.ensures, c.heights.invariant.0) at c.node-value.ensures in (
      rw c.heights.invariant.0 (halved _ c.heights.n),
      rw (joined_more, ← append_assoc, ← c.heights.invariant.1, ← value) (search rules),
    )
