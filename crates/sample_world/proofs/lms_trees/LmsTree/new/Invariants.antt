use Rattle.std.proofs.Common.{◌≡◌}
use Rattle.sample_world.specs.Joined.{listed}
use Rattle.sample_world.specs.LmsKeys.{leaf_of}
use Rattle.sample_world.proofs.lms_trees.LmsTree.new.Given as goal

abbrev pub invariant-leaves : goal.invariant-leaves
invariant-leaves l = l.leaves.items ≡ listed (leaf_of l.seed l.id) l.q
