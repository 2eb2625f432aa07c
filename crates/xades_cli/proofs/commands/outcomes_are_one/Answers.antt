use Rattle.xades_cli.proofs.CommandLemmas.{comes_once}
use Rattle.xades_cli.proofs.commands.outcomes_are_one.Goals as goal

pub returns : goal.returns
returns c = comes_once
