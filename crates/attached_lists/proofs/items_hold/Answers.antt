use Rattle.attached_lists.proofs.Files.{items_hold}
use Rattle.attached_lists.proofs.items_hold.Goals as goal

pub returns : goal.returns
returns c = items_hold
