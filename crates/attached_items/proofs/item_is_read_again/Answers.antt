use Rattle.attached_items.proofs.AllItems.{item_is_read_again}
use Rattle.attached_items.proofs.item_is_read_again.Goals as goal

pub returns : goal.returns
returns c = item_is_read_again
