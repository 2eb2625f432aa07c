use Rattle.acceptance.proofs.Renewal.{renewal_keeps_yes}
use Rattle.acceptance.proofs.renewal_keeps_yes.Goals as goal

pub returns : goal.returns
returns c = renewal_keeps_yes
