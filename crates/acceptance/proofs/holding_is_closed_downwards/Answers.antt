use Rattle.acceptance.proofs.Last.{holding_is_closed_downwards}
use Rattle.acceptance.proofs.holding_is_closed_downwards.Goals as goal

pub returns : goal.returns
returns c = holding_is_closed_downwards
