-- The L-tree and the authentication path of a tree (RFC 8391, section 4.1).
use Rattle.std.specs.Prelude.{ℕ, zero, suc, ◌/◌, ◌%◌, ◌^◌, List, [], ◌∷◌, ◌++◌, if◌then◌else◌, ◌==◌}
use Rattle.xmss_definitions.specs.Octets.{xor, value_at}
use Rattle.xmss_definitions.specs.Address.{Tree, Place, l_tree_pair, tree_pair}
use Rattle.xmss_definitions.specs.Wots.{prf, keyed, digits, ends}

-- RAND_HASH (4.1.4, algorithm 7): the node over two nodes
unfoldable pub pair : Tree → Place → (left right : List ℕ) → List ℕ
pair tree place left right =
    keyed 1 (prf tree place 0) (xor left (prf tree place 1) ++ xor right (prf tree place 2))

-- the nodes of height h, from index i, in pairs; an odd last node is lifted as it is
unfoldable pub paired : Tree → (leaf h i : ℕ) → List (List ℕ) → List (List ℕ)
paired tree leaf h i [] = []
paired tree leaf h i (x ∷ []) = x ∷ []
paired tree leaf h i (x ∷ y ∷ rest) = pair tree (l_tree_pair leaf h i) x y ∷ paired tree leaf h (suc i) rest

-- ltree (4.1.5, algorithm 8): the nodes n heights up
unfoldable pub lifted : Tree → (leaf : ℕ) → List (List ℕ) → ℕ → List (List ℕ)
lifted tree leaf nodes zero = nodes
lifted tree leaf nodes (suc n) = paired tree leaf n 0 (lifted tree leaf nodes n)

-- the one node that is left, of 67 after 7 heights
abbrev pub only : List (List ℕ) → List ℕ
only [] = []
only (x ∷ rest) = x

unfoldable pub l_tree : Tree → ℕ → List (List ℕ) → List ℕ
l_tree tree leaf nodes = only (lifted tree leaf nodes 7)

-- the parent, of height n, of node i, which has this value, beside its sibling
unfoldable pub parent : Tree → (n i : ℕ) → (value sibling : List ℕ) → List ℕ
parent tree n i value sibling =
    let place = tree_pair n (i / 2) in if i % 2 == 1 then pair tree place sibling value else pair tree place value sibling

-- the node at height n over leaf idx, along the path (4.1.10, algorithm 13)
unfoldable pub node_over : Tree → ℕ → (path value : List ℕ) → ℕ → List ℕ
node_over tree idx path value zero = value
node_over tree idx path value (suc n) = parent tree n (idx / 2 ^ n) (node_over tree idx path value n) (value_at path n)

-- XMSS_rootFromSig (4.1.10, algorithm 13): the root, of height h, to which the signature of a digest by leaf idx leads
unfoldable pub root_from : (h : ℕ) → Tree → ℕ → (digest ots path : List ℕ) → List ℕ
root_from h tree idx digest ots path =
    node_over tree idx path (l_tree tree idx (ends tree idx (digits digest) ots 67)) h
