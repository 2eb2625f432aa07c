use Rattle.insertion_fragments.proofs.ItemFragments.{items_spelled}
use Rattle.insertion_fragments.proofs.items_are_spelled.Goals as goal

pub returns : goal.returns
returns c = items_spelled
