use Rattle.completeness.proofs.There.{signers_are_there}
use Rattle.completeness.proofs.signers_are_there.Goals as goal

pub returns : goal.returns
returns c = signers_are_there
