use Rattle.signature_model.proofs.ValueKept.{value_keeps_covers}
use Rattle.signature_model.proofs.value_keeps_covers.Goals as goal

pub returns : goal.returns
returns c = value_keeps_covers
