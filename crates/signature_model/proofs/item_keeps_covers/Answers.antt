use Rattle.signature_model.proofs.ItemKept.{item_keeps_covers}
use Rattle.signature_model.proofs.item_keeps_covers.Goals as goal

pub returns : goal.returns
returns c = item_keeps_covers
