use Rattle.signature_model.proofs.ItemCounted.{item_keeps_counted}
use Rattle.signature_model.proofs.item_keeps_counted.Goals as goal

pub returns : goal.returns
returns c = item_keeps_counted
