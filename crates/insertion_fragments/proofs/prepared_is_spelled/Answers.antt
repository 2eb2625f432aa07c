use Rattle.insertion_fragments.proofs.DraftFragments.{prepared_spelled}
use Rattle.insertion_fragments.proofs.prepared_is_spelled.Goals as goal

pub returns : goal.returns
returns c = prepared_spelled
