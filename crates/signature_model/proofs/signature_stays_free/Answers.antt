use Rattle.signature_model.proofs.StaysFree.{stays_free}
use Rattle.signature_model.proofs.signature_stays_free.Goals as goal

pub returns : goal.returns
returns c = stays_free
