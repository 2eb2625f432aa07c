use Rattle.acceptance.proofs.Downwards.{acceptance_is_kept, token_acceptance_is_kept}
use Rattle.acceptance.proofs.acceptance_is_closed_downwards.Goals as goal

pub returns-clause-certificate : goal.returns-clause-certificate
returns-clause-certificate c = acceptance_is_kept

pub returns-clause-token : goal.returns-clause-token
returns-clause-token c = token_acceptance_is_kept
