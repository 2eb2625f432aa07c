use Rattle.xmss_definitions.proofs.Paths.{one_left}
use Rattle.xmss_definitions.proofs.l_tree_ends_in_one.Goals as goal

pub returns : goal.returns
returns c = one_left
