use Rattle.signature_model.proofs.CountedStay.{counted_stay}
use Rattle.signature_model.proofs.counted_signatures_stay.Goals as goal

pub returns : goal.returns
returns c = counted_stay
