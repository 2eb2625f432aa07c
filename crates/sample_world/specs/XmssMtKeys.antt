-- XMSS^MT keys and signatures of set 2, four layers of trees of height 5, made from secrets (RFC 8391, 4.2.2 to 4.2.4).
use Rattle.std.specs.Prelude.{ℕ, zero, suc, ◌%◌, List, ◌++◌}
use Rattle.std.specs.Int.{bytes_high_first}
use Rattle.xmss_definitions.specs.Address.{Tree, word}
use Rattle.xmss_definitions.specs.Keys.{message_digest}
use Rattle.xmssmt_verify.specs.XmssMt.{above, tree_over}
use Rattle.sample_world.specs.Joined.{joined}
use Rattle.sample_world.specs.XmssKeys.{node, ots_values, path}

-- what the secrets of chains are: x layer tree leaf chain
abbrev pub Secrets : Type 0
Secrets = ℕ → ℕ → ℕ → ℕ → List ℕ

-- the root of a tree
abbrev pub root_in : Tree → Secrets → List ℕ
root_in tree x = node tree (x tree.layer tree.number) 0 5

-- the one tree of the highest layer
abbrev pub top_tree : (seed : List ℕ) → Tree
top_tree seed = record { seed = seed; layer = 3; number = 0 }

-- the key of the secrets (4.2.2)
unfoldable pub mt_key : (seed : List ℕ) → Secrets → List ℕ
mt_key seed x = word 2 ++ (root_in (top_tree seed) x ++ seed)

-- what layer j signs: layer 0 the digest, each other one the root of the tree below
unfoldable pub signed_by : (seed : List ℕ) → Secrets → (idx : ℕ) → (digest : List ℕ) → ℕ → List ℕ
signed_by seed x idx digest zero = digest
signed_by seed x idx digest (suc j) = root_in (tree_over 5 seed idx j) x

-- the signature of layer j: of what it signs, by the leaf over which idx is
unfoldable pub layer_in : Tree → Secrets → (leaf : ℕ) → (signed : List ℕ) → List ℕ
layer_in tree x leaf signed =
    ots_values tree (x tree.layer tree.number) leaf signed ++ path 5 tree (x tree.layer tree.number) leaf

abbrev pub layer_of : (seed : List ℕ) → Secrets → (idx : ℕ) → (digest : List ℕ) → ℕ → List ℕ
layer_of seed x idx digest j = layer_in (tree_over 5 seed idx j) x (above 5 idx j % 32) (signed_by seed x idx digest j)

-- the signature of a message by idx under r (4.2.4)
unfoldable pub mt_signature : (seed : List ℕ) → Secrets → (idx : ℕ) → (r message : List ℕ) → List ℕ
mt_signature seed x idx r message =
    bytes_high_first 3 idx ++ (r ++ joined (layer_of seed x idx (message_digest r (root_in (top_tree seed) x) idx message)) 4)
