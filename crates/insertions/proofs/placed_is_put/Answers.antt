use Rattle.insertions.proofs.PlacedPut.{placed_is_put}
use Rattle.insertions.proofs.placed_is_put.Goals as goal

pub returns : goal.returns
returns c = placed_is_put
