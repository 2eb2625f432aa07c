use Rattle.std.proofs.Common.{◌≡◌}
use Rattle.sample_world.specs.Joined.{listed}
use Rattle.sample_world.specs.World.{xmssmt_secret}
use Rattle.sample_world.specs.XmssKeys.{leaf}
use Rattle.sample_world.proofs.xmssmt_trees.MtTree.new.Given as goal

abbrev pub invariant-leaves : goal.invariant-leaves
invariant-leaves l = l.leaves.items ≡ listed (leaf l.prf (xmssmt_secret l.secret l.layer l.number)) l.l
