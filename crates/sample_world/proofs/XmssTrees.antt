-- How the XMSS key's tree grows.
use Rattle.std.proofs.Common.{◌≡◌, ℕ, zero, suc, ◌+◌, ◌-◌, ◌*◌, ◌/◌, ◌%◌, ◌^◌, ◌<◌, ◌≤◌, List, inl, inr, refl, arith}
use Rattle.std.proofs.lemmas.Bool.{cases_lt}
use Rattle.xmss_definitions.specs.Address.{Tree, tree_pair}
use Rattle.xmss_definitions.specs.Nodes.{pair, l_tree}
use Rattle.sample_world.specs.Joined.{listed, sibling}
use Rattle.sample_world.specs.XmssKeys.{chain_end, leaf, node}

pub leaf_is : (tree : Tree) (x : ℕ → ℕ → List ℕ) (l : ℕ) → leaf tree x l ≡ l_tree tree l (listed (chain_end tree x l) 67)
unfolding leaf
leaf_is tree x l = refl

pub node_leaf : (tree : Tree) (x : ℕ → ℕ → List ℕ) (i : ℕ) → node tree x i 0 ≡ leaf tree x i
unfolding node
node_leaf tree x i = refl

pub node_inner : (tree : Tree) (x : ℕ → ℕ → List ℕ) (i n : ℕ) → 0 < n
    → node tree x i n ≡ pair tree (tree_pair (n - 1) i) (node tree x (2 * i) (n - 1)) (node tree x (2 * i + 1) (n - 1))
unfolding node
node_inner tree x i zero h = absurd (omega arith)
node_inner tree x i (suc n) h = let e : suc n - 1 ≡ n = omega arith in rw e refl

beside_at : (x top : ℕ) → top % 2 ≡ 0 → x < top → sibling x + 1 ≤ top
beside_at x top even below =
    elim (cases_lt (x % 2) 1) [
      | inl small ↦ let e : x % 2 ≡ 0 = omega arith in rw e (omega arith)
      | inr big ↦ let e : x % 2 ≡ 1 = omega arith in rw e (omega arith)
    ]

-- the node beside one on the way from leaf idx is in a tree of height 5
pub beside_in_small : (idx n : ℕ) → idx < 32 → n < 5 → (sibling (idx / 2 ^ n) + 1) * 2 ^ n ≤ 32
beside_in_small q zero hq hn = let b = beside_at (q / 1) 32 refl (omega arith) in omega arith
beside_in_small q (suc zero) hq hn = let b = beside_at (q / 2) 16 refl (omega arith) in omega arith
beside_in_small q (suc (suc zero)) hq hn = let b = beside_at (q / 4) 8 refl (omega arith) in omega arith
beside_in_small q (suc (suc (suc zero))) hq hn = let b = beside_at (q / 8) 4 refl (omega arith) in omega arith
beside_in_small q (suc (suc (suc (suc zero)))) hq hn = let b = beside_at (q / 16) 2 refl (omega arith) in omega arith
beside_in_small q (suc (suc (suc (suc (suc n))))) hq hn = absurd (omega arith)

-- and in one of height 10
pub beside_in_tree : (idx n : ℕ) → idx < 1024 → n < 10 → (sibling (idx / 2 ^ n) + 1) * 2 ^ n ≤ 1024
beside_in_tree q zero hq hn = let b = beside_at (q / 1) 1024 refl (omega arith) in omega arith
beside_in_tree q (suc zero) hq hn = let b = beside_at (q / 2) 512 refl (omega arith) in omega arith
beside_in_tree q (suc (suc zero)) hq hn = let b = beside_at (q / 4) 256 refl (omega arith) in omega arith
beside_in_tree q (suc (suc (suc zero))) hq hn = let b = beside_at (q / 8) 128 refl (omega arith) in omega arith
beside_in_tree q (suc (suc (suc (suc zero)))) hq hn = let b = beside_at (q / 16) 64 refl (omega arith) in omega arith
beside_in_tree q (suc (suc (suc (suc (suc zero))))) hq hn = let b = beside_at (q / 32) 32 refl (omega arith) in omega arith
beside_in_tree q (suc (suc (suc (suc (suc (suc zero)))))) hq hn = let b = beside_at (q / 64) 16 refl (omega arith) in omega arith
beside_in_tree q (suc (suc (suc (suc (suc (suc (suc zero))))))) hq hn = let b = beside_at (q / 128) 8 refl (omega arith) in omega arith
beside_in_tree q (suc (suc (suc (suc (suc (suc (suc (suc zero)))))))) hq hn = let b = beside_at (q / 256) 4 refl (omega arith) in omega arith
beside_in_tree q (suc (suc (suc (suc (suc (suc (suc (suc (suc zero))))))))) hq hn = let b = beside_at (q / 512) 2 refl (omega arith) in omega arith
beside_in_tree q (suc (suc (suc (suc (suc (suc (suc (suc (suc (suc n)))))))))) hq hn = absurd (omega arith)
