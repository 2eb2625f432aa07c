-- The signature of a digest by a leaf of a made tree leads to the tree's root.
use Rattle.std.proofs.Common.{◌≡◌, ℕ, ◌*◌, ◌/◌, ◌^◌, ◌<◌, List, length, ap, ◌∙◌}
use Rattle.xmss_definitions.specs.Address.{Tree}
use Rattle.xmss_definitions.specs.Wots.{chain, digit, digits, ends}
use Rattle.xmss_definitions.specs.Nodes.{l_tree, node_over, root_from}
use Rattle.sample_world.specs.Joined.{sibling}
use Rattle.sample_world.specs.XmssKeys.{leaf, node, ots_values, path}
use Rattle.sample_world.proofs.Rows.{length-joined}
use Rattle.sample_world.proofs.XmssChains.{ends_are, length-chain}
use Rattle.sample_world.proofs.XmssClimb.{climbs, length-node}

pub length-values : (tree : Tree) (x : ℕ → ℕ → List ℕ) (idx : ℕ) (digest : List ℕ) → ((l i : ℕ) → length (x l i) ≡ 32) → length (ots_values tree x idx digest) ≡ 2144
unfolding ots_values
length-values tree x idx digest each =
    length-joined (λ i. chain tree idx i 0 (digit (digits digest) i) (x idx i)) 67 (λ i. length-chain tree idx i 0 (digit (digits digest) i) (x idx i) (each idx i))

pub length-path : (h : ℕ) (tree : Tree) (x : ℕ → ℕ → List ℕ) (idx : ℕ) → ((l i : ℕ) → length (x l i) ≡ 32) → length (path h tree x idx) ≡ 32 * h
unfolding path
length-path h tree x idx each = length-joined (λ k. node tree x (sibling (idx / 2 ^ k)) k) h (λ k. length-node tree x (sibling (idx / 2 ^ k)) k each)

leaf_from : (tree : Tree) (x : ℕ → ℕ → List ℕ) (idx : ℕ) (digest : List ℕ) → ((l i : ℕ) → length (x l i) ≡ 32)
    → l_tree tree idx (ends tree idx (digits digest) (ots_values tree x idx digest) 67) ≡ leaf tree x idx
unfolding leaf
leaf_from tree x idx digest each = ap (l_tree tree idx) (ends_are tree x idx digest (each idx))

pub made_root : (h : ℕ) (tree : Tree) (x : ℕ → ℕ → List ℕ) (idx : ℕ) (digest : List ℕ) → ((l i : ℕ) → length (x l i) ≡ 32) → idx < 2 ^ h
    → root_from h tree idx digest (ots_values tree x idx digest) (path h tree x idx) ≡ node tree x 0 h
unfolding root_from
made_root h tree x idx digest each below =
    ap (λ v. node_over tree idx (path h tree x idx) v h) (leaf_from tree x idx digest each) ∙ climbs h tree x idx each below
