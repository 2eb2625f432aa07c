use Rattle.covered_items.proofs.ItemCovers.{item_covers_the_next_octets}
use Rattle.covered_items.proofs.item_covers_the_next_octets.Goals as goal

pub returns : goal.returns
returns c = item_covers_the_next_octets
