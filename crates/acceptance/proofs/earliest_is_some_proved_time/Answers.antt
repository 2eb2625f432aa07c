use Rattle.acceptance.proofs.Cases.{earliest_is_some_proved_time}
use Rattle.acceptance.proofs.earliest_is_some_proved_time.Goals as goal

pub returns : goal.returns
returns c = earliest_is_some_proved_time
