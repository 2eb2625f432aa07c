use Rattle.signature_model.proofs.Hosts.{property_keeps_covers}
use Rattle.signature_model.proofs.property_keeps_covers.Goals as goal

pub returns : goal.returns
returns c = property_keeps_covers
