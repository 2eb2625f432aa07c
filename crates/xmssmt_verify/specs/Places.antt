-- What the code calls a place in the tree, as the definitions do.
use Rattle.xmssmt_verify.specs.declared.address.Place.{Place}
use Rattle.xmssmt_verify.specs.declared.address.Place.TheVariants.{ChainStep, LTreePair, TreePair}
use Rattle.xmss_definitions.specs.Address as address

abbrev pub place_of : Place → address.Place
place_of (ChainStep leaf chain step) = address.chain_step leaf chain step
place_of (LTreePair leaf height index) = address.l_tree_pair leaf height index
place_of (TreePair height index) = address.tree_pair height index
