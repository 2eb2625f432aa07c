use Rattle.acceptance.specs.Tokens.{Token}
use Rattle.acceptance.proofs.Rounds.{rounds_reach_the_earliest}
use Rattle.acceptance.proofs.rounds_reach_the_earliest.Goals as goal

pub returns : goal.returns
returns c = rounds_reach_the_earliest Token
