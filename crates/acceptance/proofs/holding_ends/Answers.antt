use Rattle.acceptance.proofs.Last.{holding_ends}
use Rattle.acceptance.proofs.holding_ends.Goals as goal

pub returns : goal.returns
returns c = holding_ends
