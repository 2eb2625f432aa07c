use Rattle.sample_world.proofs.Counts.{none_counted}
use Rattle.sample_world.proofs.world.World.new.Goals as goal

pub invariant_of-result : goal.invariant_of-result
invariant_of-result c = none_counted
