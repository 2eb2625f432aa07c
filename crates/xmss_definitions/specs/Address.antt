-- Addresses (RFC 8391, section 2.5) as the octets that PRF takes.
use Rattle.std.specs.Prelude.{ℕ, List, ◌++◌}
use Rattle.std.specs.Int.{w32, w64, to_be_bytes}

-- one tree of a key: the key's SEED, and the layer and the number of the tree in it
pub record Tree : Type 0 where
  pub seed : List ℕ
  pub layer : ℕ
  pub number : ℕ

-- the one tree of an XMSS key: layer 0 and tree 0
abbrev pub only_tree : List ℕ → Tree
only_tree seed = record { seed = seed; layer = 0; number = 0 }

-- what an address names in a tree: a step of a chain of a leaf, a pair of the L-tree over a leaf, a pair of the tree
pub data Place : Type 0 where
  chain_step : (leaf chain step : ℕ) → Place
  l_tree_pair : (leaf height index : ℕ) → Place
  tree_pair : (height index : ℕ) → Place

-- a 32-bit word of an address
abbrev pub word : ℕ → List ℕ
word x = to_be_bytes w32 x

-- the type of an address and its three words
abbrev pub place_octets : Place → List ℕ
place_octets (chain_step leaf chain step) = word 0 ++ word leaf ++ word chain ++ word step
place_octets (l_tree_pair leaf height index) = word 1 ++ word leaf ++ word height ++ word index
place_octets (tree_pair height index) = word 2 ++ word 0 ++ word height ++ word index

-- layer, tree, type and words, keyAndMask: 32 octets
abbrev pub address_octets : (layer number : ℕ) → Place → (mask : ℕ) → List ℕ
address_octets layer number place mask = word layer ++ to_be_bytes w64 number ++ place_octets place ++ word mask
