use Rattle.acceptance.specs.Tokens.{Token}
use Rattle.acceptance.proofs.ProvedTimes.{earliest_is_the_least_proved}
use Rattle.acceptance.proofs.earliest_is_the_least_proved.Goals as goal

pub returns : goal.returns
returns c = earliest_is_the_least_proved Token
