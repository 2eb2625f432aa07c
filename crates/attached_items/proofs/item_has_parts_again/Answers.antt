use Rattle.attached_items.proofs.AllItems.{item_has_parts_again}
use Rattle.attached_items.proofs.item_has_parts_again.Goals as goal

pub returns : goal.returns
returns c = item_has_parts_again
