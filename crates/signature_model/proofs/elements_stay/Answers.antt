use Rattle.signature_model.proofs.StandsAgain.{spot_stays}
use Rattle.signature_model.proofs.elements_stay.Goals as goal

pub returns : goal.returns
returns c = spot_stays
