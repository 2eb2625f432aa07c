use Rattle.std.proofs.Common.{◌≡◌}
use Rattle.sample_world.specs.Joined.{listed}
use Rattle.sample_world.specs.World.{xmss_secret}
use Rattle.sample_world.specs.XmssKeys.{leaf}
use Rattle.sample_world.proofs.xmss_trees.XmssTree.new.Given as goal

abbrev pub invariant-leaves : goal.invariant-leaves
invariant-leaves l = l.leaves.items ≡ listed (leaf l.prf (xmss_secret l.secret)) l.l
