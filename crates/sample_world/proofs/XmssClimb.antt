-- The path of a made signature leads to the root.
use Rattle.std.proofs.Common.{◌≡◌, ℕ, zero, suc, ◌+◌, ◌-◌, ◌*◌, ◌/◌, ◌%◌, ◌^◌, ◌<◌, ◌≤◌, List, [], ◌∷◌, ◌++◌, length, refl, ap, ◌∙◌, inl, inr, arith, lit≤}
use Rattle.std.proofs.lemmas.Bool.{cases_lt}
use Rattle.std.proofs.Math.Nat.{pow-suc, div-div-eq-div-mul, div-eq_of_lt, le_refl}
use Rattle.sha2.proofs.Facts256.{length-sha256}
use Rattle.xmss_definitions.specs.Octets.{value_at}
use Rattle.xmss_definitions.specs.Address.{Tree, Place, l_tree_pair, tree_pair}
use Rattle.xmss_definitions.specs.Wots.{keyed, chain}
use Rattle.xmss_definitions.specs.Nodes.{pair, paired, lifted, only, l_tree, parent, node_over}
use Rattle.sample_world.specs.Joined.{joined, listed, sibling}
use Rattle.sample_world.specs.XmssKeys.{leaf, node, path}
use Rattle.sample_world.proofs.Rows.{value_at-joined}
use Rattle.sample_world.proofs.XmssChains.{length-chain}

length-pair : (tree : Tree) (place : Place) (left right : List ℕ) → length (pair tree place left right) ≡ 32
unfolding pair keyed
length-pair tree place left right = length-sha256 _

-- some nodes, each of 32 octets
abbrev AllLong : List (List ℕ) → Type 0
AllLong [] = Unit {0}
AllLong (x ∷ xs) = (length x ≡ 32) × AllLong xs

abbrev Some : List (List ℕ) → Type 0
Some [] = ⊥
Some (x ∷ xs) = Unit {0}

long_push : (xs : List (List ℕ)) (y : List ℕ) → AllLong xs → length y ≡ 32 → AllLong (xs ++ y ∷ [])
long_push [] y h l = (l, tt)
long_push (x ∷ xs) y h l = (h.0, long_push xs y h.1 l)

some_push : (xs : List (List ℕ)) (y : List ℕ) → Some (xs ++ y ∷ [])
some_push [] y = tt
some_push (x ∷ xs) y = tt

long_listed : (f : ℕ → List ℕ) (n : ℕ) → ((i : ℕ) → length (f i) ≡ 32) → AllLong (listed f n)
unfolding listed
long_listed f zero each = tt
long_listed f (suc n) each = long_push (listed f n) (f n) (long_listed f n each) (each n)

some_listed : (f : ℕ → List ℕ) (n : ℕ) → Some (listed f (suc n))
unfolding listed
some_listed f n = some_push (listed f n) (f n)

long_paired : (tree : Tree) (l h i : ℕ) (nodes : List (List ℕ)) → AllLong nodes → AllLong (paired tree l h i nodes)
unfolding paired
long_paired tree l h i [] long = tt
long_paired tree l h i (x ∷ []) long = long
long_paired tree l h i (x ∷ y ∷ rest) long = (length-pair tree (l_tree_pair l h i) x y, long_paired tree l h (suc i) rest long.1.1)

some_paired : (tree : Tree) (l h i : ℕ) (nodes : List (List ℕ)) → Some nodes → Some (paired tree l h i nodes)
unfolding paired
some_paired tree l h i [] some = some
some_paired tree l h i (x ∷ []) some = tt
some_paired tree l h i (x ∷ y ∷ rest) some = tt

long_lifted : (tree : Tree) (l : ℕ) (nodes : List (List ℕ)) (n : ℕ) → AllLong nodes → AllLong (lifted tree l nodes n)
unfolding lifted
long_lifted tree l nodes zero long = long
long_lifted tree l nodes (suc n) long = long_paired tree l n 0 (lifted tree l nodes n) (long_lifted tree l nodes n long)

some_lifted : (tree : Tree) (l : ℕ) (nodes : List (List ℕ)) (n : ℕ) → Some nodes → Some (lifted tree l nodes n)
unfolding lifted
some_lifted tree l nodes zero some = some
some_lifted tree l nodes (suc n) some = some_paired tree l n 0 (lifted tree l nodes n) (some_lifted tree l nodes n some)

long_only : (nodes : List (List ℕ)) → AllLong nodes → Some nodes → length (only nodes) ≡ 32
long_only [] long some = absurd some
long_only (x ∷ rest) long some = long.0

length-leaf : (tree : Tree) (x : ℕ → ℕ → List ℕ) (l : ℕ) → ((l i : ℕ) → length (x l i) ≡ 32) → length (leaf tree x l) ≡ 32
unfolding leaf l_tree
length-leaf tree x l each =
    let f = λ (i : ℕ). chain tree l i 0 15 (x l i) in
    let long = long_listed f 67 (λ i. length-chain tree l i 0 15 (x l i) (each l i)) in
    long_only (lifted tree l (listed f 67) 7) (long_lifted tree l (listed f 67) 7 long) (some_lifted tree l (listed f 67) 7 (some_listed f 66))

pub length-node : (tree : Tree) (x : ℕ → ℕ → List ℕ) (i n : ℕ) → ((l i : ℕ) → length (x l i) ≡ 32) → length (node tree x i n) ≡ 32
unfolding node
length-node tree x i zero each = length-leaf tree x i each
length-node tree x i (suc n) each = length-pair tree (tree_pair n i) _ _

parent_is : (tree : Tree) (x : ℕ → ℕ → List ℕ) (i n : ℕ) → parent tree n i (node tree x i n) (node tree x (sibling i) n) ≡ node tree x (i / 2) (suc n)
unfolding parent node
parent_is tree x i n =
    elim (cases_lt (i % 2) 1) [
      | inl low ↦
          let even : i % 2 ≡ 0 = omega arith in
          let left : 2 * (i / 2) ≡ i = omega arith in
          rw (even, left) refl
      | inr high ↦
          let odd : i % 2 ≡ 1 = omega arith in
          let left : 2 * (i / 2) ≡ i - 1 = omega arith in
          let right : i - 1 + 1 ≡ i = omega arith in
          rw (odd, left, right) refl
    ]

halved : (a n : ℕ) → a / 2 ^ n / 2 ≡ a / 2 ^ suc n
halved a n = rw (pow-suc) (div-div-eq-div-mul a (2 ^ n) 2)

leaf_is : (tree : Tree) (x : ℕ → ℕ → List ℕ) (idx : ℕ) → leaf tree x idx ≡ node tree x (idx / 2 ^ 0) 0
unfolding node
leaf_is tree x idx = let whole : idx / 2 ^ 0 ≡ idx = omega arith in rw whole refl

path_is : (h : ℕ) (tree : Tree) (x : ℕ → ℕ → List ℕ) (idx : ℕ) → path h tree x idx ≡ joined (λ k. node tree x (sibling (idx / 2 ^ k)) k) h
unfolding path
path_is h tree x idx = refl

climb : (h : ℕ) (tree : Tree) (x : ℕ → ℕ → List ℕ) (idx n : ℕ) → ((l i : ℕ) → length (x l i) ≡ 32) → n ≤ h
    → node_over tree idx (path h tree x idx) (leaf tree x idx) n ≡ node tree x (idx / 2 ^ n) n
unfolding node_over
climb h tree x idx zero each within = leaf_is tree x idx
climb h tree x idx (suc n) each within =
    let value = climb h tree x idx n each (omega arith) in
    let beside = value_at-joined (λ k. node tree x (sibling (idx / 2 ^ k)) k) h n (λ k. length-node tree x (sibling (idx / 2 ^ k)) k each) (omega arith) in
    let beside' : value_at (path h tree x idx) n ≡ node tree x (sibling (idx / 2 ^ n)) n = rw path_is beside in
    rw (value, beside') (parent_is tree x (idx / 2 ^ n) n ∙ ap (λ z. node tree x z (suc n)) (halved idx n))

pub climbs : (h : ℕ) (tree : Tree) (x : ℕ → ℕ → List ℕ) (idx : ℕ) → ((l i : ℕ) → length (x l i) ≡ 32) → idx < 2 ^ h
    → node_over tree idx (path h tree x idx) (leaf tree x idx) h ≡ node tree x 0 h
climbs h tree x idx each below =
    rw (div-eq_of_lt below) at (climb h tree x idx h each (le_refl h))
