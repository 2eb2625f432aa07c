use Rattle.signature_model.proofs.ItemKept.{items_keep_covers}
use Rattle.signature_model.proofs.items_keep_covers.Goals as goal

pub returns : goal.returns
returns c = items_keep_covers
