use Rattle.completeness.proofs.Agreed.{none_is_all_complete}
use Rattle.completeness.proofs.none_is_all_complete.Goals as goal

pub returns : goal.returns
returns c = none_is_all_complete
