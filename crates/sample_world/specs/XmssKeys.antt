-- Trees of XMSS made from secrets, and the keys and signatures of set 1 (RFC 8391, sections 3.1.4, 3.1.5, 4.1.6 to 4.1.9).
use Rattle.std.specs.Prelude.{ℕ, zero, suc, ◌+◌, ◌*◌, ◌/◌, ◌^◌, List, ◌++◌}
use Rattle.xmss_definitions.specs.Address.{Tree, only_tree, word, tree_pair}
use Rattle.xmss_definitions.specs.Wots.{chain, digit, digits}
use Rattle.xmss_definitions.specs.Nodes.{pair, l_tree}
use Rattle.xmss_definitions.specs.Keys.{message_digest}
use Rattle.sample_world.specs.Joined.{joined, listed, sibling}

-- the end of chain i of leaf l over the secrets x l i (3.1.4, algorithm 4)
abbrev pub chain_end : Tree → (ℕ → ℕ → List ℕ) → (l i : ℕ) → List ℕ
chain_end tree x l i = chain tree l i 0 15 (x l i)

-- leaf l (4.1.6)
unfoldable pub leaf : Tree → (ℕ → ℕ → List ℕ) → ℕ → List ℕ
leaf tree x l = l_tree tree l (listed (chain_end tree x l) 67)

-- node i of height n
unfoldable pub node : Tree → (ℕ → ℕ → List ℕ) → (i n : ℕ) → List ℕ
node tree x i zero = leaf tree x i
node tree x i (suc n) = pair tree (tree_pair n i) (node tree x (2 * i) n) (node tree x (2 * i + 1) n)

-- the key of the secrets (4.1.7)
unfoldable pub key : List ℕ → (ℕ → ℕ → List ℕ) → List ℕ
key seed x = word 1 ++ (node (only_tree seed) x 0 10 ++ seed)

-- the one-time signature of a digest by leaf idx (3.1.5)
unfoldable pub ots_values : Tree → (ℕ → ℕ → List ℕ) → ℕ → (digest : List ℕ) → List ℕ
ots_values tree x idx digest =
    let s = digits digest in joined (λ i. chain tree idx i 0 (digit s i) (x idx i)) 67

-- the authentication path of leaf idx in a tree of height h (4.1.9)
unfoldable pub path : (h : ℕ) → Tree → (ℕ → ℕ → List ℕ) → ℕ → List ℕ
path h tree x idx = joined (λ k. node tree x (sibling (idx / 2 ^ k)) k) h

-- the signature of a message by leaf idx under r (4.1.9)
unfoldable pub signature : List ℕ → (ℕ → ℕ → List ℕ) → ℕ → (r message : List ℕ) → List ℕ
signature seed x idx r message =
    let tree = only_tree seed in
    word idx ++ (r ++ (ots_values tree x idx (message_digest r (node tree x 0 10) idx message) ++ path 10 tree x idx))
