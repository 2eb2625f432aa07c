use Rattle.std.proofs.Common.{append_assoc, refl, arith, rules}
use Rattle.std.proofs.lemmas.List.{append-nil}
use Rattle.sample_world.proofs.Trees.{joined_none, joined_more, halved}
use Rattle.sample_world.proofs.XmssTrees.{beside_in_small}
use Rattle.sample_world.proofs.xmssmt_trees.MtTree.put_path.Goals as goal

pub heights-init : goal.heights-init
heights-init c = (omega arith, rw (joined_none, append-nil) refl)

pub node-value-requires : goal.node-value-requires
node-value-requires c =
    rw (c.sibling.ensures, c.heights.invariant.0) (beside_in_small c.args.idx c.heights.n c.requires (omega arith))

pub heights-preserved : goal.heights-preserved
heights-preserved c =
    let value = rw (c.sibling.ensures, c.heights.invariant.0) at c.node-value.ensures in (
      rw c.heights.invariant.0 (halved _ c.heights.n),
      rw (joined_more, ← append_assoc, ← c.heights.invariant.1, ← value) (search rules),
    )
