-- How the L-tree and a path grow.
use Rattle.std.proofs.Common.{◌≡◌, ℕ, zero, suc, ◌+◌, ◌*◌, ◌/◌, ◌^◌, ◌<◌, ◌≤◌, List, [], ◌∷◌, ◌++◌, length, take, drop, set, get_or, refl, ap, sym, ◌∙◌, append_assoc, add-one, arith}
use Rattle.std.proofs.lemmas.List.{take_more_set, drop-set-lt, append-nil, drop_all}
use Rattle.std.proofs.Math.Seq.{drop-cons}
use Rattle.xmss_definitions.specs.Octets.{value_at}
use Rattle.xmss_definitions.specs.Address.{Tree, l_tree_pair}
use Rattle.xmss_definitions.specs.Nodes.{pair, paired, lifted, only, l_tree, parent, node_over}

pub node_over_none : (tree : Tree) (idx : ℕ) (path value : List ℕ) → node_over tree idx path value 0 ≡ value
unfolding node_over
node_over_none tree idx path value = refl

pub node_over_more : (tree : Tree) (idx : ℕ) (path value : List ℕ) (n : ℕ) → node_over tree idx path value (n + 1) ≡ parent tree n (idx / 2 ^ n) (node_over tree idx path value n) (value_at path n)
unfolding node_over
node_over_more tree idx path value n = rw add-one refl

-- the nodes so far and the pairs of the rest are the pairs of all
pub pair_step : (tree : Tree) (leaf h i : ℕ) (nodes : List (List ℕ)) (v : List ℕ)
    → 2 * i + 1 < length nodes → v ≡ pair tree (l_tree_pair leaf h i) (get_or nodes (2 * i) []) (get_or nodes (2 * i + 1) [])
    → take (i + 1) (set nodes i v) ++ paired tree leaf h (i + 1) (drop (2 * (i + 1)) (set nodes i v))
    ≡ take i nodes ++ paired tree leaf h i (drop (2 * i) nodes)
unfolding paired
pair_step tree leaf h i nodes v room is_pair =
    let front = take_more_set nodes i v (omega arith) in
    let two : 2 * (i + 1) ≡ suc (suc (2 * i)) = omega arith in
    let one : 2 * i + 1 ≡ suc (2 * i) = omega arith in
    let rest = drop-set-lt (suc (suc (2 * i))) nodes i v (omega arith) in
    let first = drop-cons nodes (2 * i) [] (omega arith) in
    let second = drop-cons nodes (suc (2 * i)) [] (omega arith) in
    rw (front, two, rest, first, second, append_assoc, is_pair, one, add-one) refl

-- an even row has nothing left, an odd one its last node
pub pair_end_even : (tree : Tree) (leaf h i : ℕ) (nodes : List (List ℕ)) → length nodes ≤ 2 * i
    → take i nodes ++ paired tree leaf h i (drop (2 * i) nodes) ≡ take i nodes
unfolding paired
pair_end_even tree leaf h i nodes whole = rw (drop_all (2 * i) nodes whole, append-nil) refl

pub pair_end_odd : (tree : Tree) (leaf h i : ℕ) (nodes : List (List ℕ)) (v : List ℕ) → length nodes ≡ 2 * i + 1 → v ≡ get_or nodes (2 * i) []
    → take i nodes ++ paired tree leaf h i (drop (2 * i) nodes) ≡ take (i + 1) (set nodes i v)
unfolding paired
pair_end_odd tree leaf h i nodes v whole is_last =
    let front = take_more_set nodes i v (omega arith) in
    let first = drop-cons nodes (2 * i) [] (omega arith) in
    rw (front, first, drop_all (suc (2 * i)) nodes (omega arith), is_last) refl

pub lifted_none : (tree : Tree) (leaf : ℕ) (nodes : List (List ℕ)) → lifted tree leaf nodes 0 ≡ nodes
unfolding lifted
lifted_none tree leaf nodes = refl

pub lifted_more : (tree : Tree) (leaf : ℕ) (nodes : List (List ℕ)) (n : ℕ) → lifted tree leaf nodes (n + 1) ≡ paired tree leaf n 0 (lifted tree leaf nodes n)
unfolding lifted
lifted_more tree leaf nodes n = rw add-one refl

pub only_is : (nodes : List (List ℕ)) (n : ℕ) → 0 < n → 0 < length nodes → only (take n nodes) ≡ get_or nodes 0 []
only_is [] n p l = absurd (omega arith)
only_is (x ∷ nodes) zero p l = absurd (omega arith)
only_is (x ∷ nodes) (suc n) p l = refl

-- the first node of a row that seven heights left
pub l_tree_is : (tree : Tree) (leaf : ℕ) (ends nodes : List (List ℕ)) (count h : ℕ) → h ≡ 7 → take count nodes ≡ lifted tree leaf ends h
    → 0 < count → 0 < length nodes → get_or nodes 0 [] ≡ l_tree tree leaf ends
unfolding l_tree
l_tree_is tree leaf ends nodes count h seven row some more =
    sym (only_is nodes count some more) ∙ ap only (row ∙ ap (λ n. lifted tree leaf ends n) seven)

length-paired : (tree : Tree) (leaf h i : ℕ) (nodes : List (List ℕ)) → length (paired tree leaf h i nodes) ≡ (length nodes + 1) / 2
unfolding paired
length-paired tree leaf h i [] = refl
length-paired tree leaf h i (x ∷ []) = refl
length-paired tree leaf h i (x ∷ y ∷ rest) = let below = length-paired tree leaf h (suc i) rest in omega arith

length-lifted : (tree : Tree) (leaf : ℕ) (nodes : List (List ℕ)) (n : ℕ) → length (lifted tree leaf nodes (suc n)) ≡ (length (lifted tree leaf nodes n) + 1) / 2
unfolding lifted
length-lifted tree leaf nodes n = length-paired tree leaf n 0 (lifted tree leaf nodes n)

-- 67 nodes are one after seven heights
pub one_left : (tree : Tree) (leaf : ℕ) (nodes : List (List ℕ)) → length nodes ≡ 67 → length (lifted tree leaf nodes 7) ≡ 1
one_left tree leaf nodes long =
    let start = ap length (lifted_none tree leaf nodes) in
    let step = length-lifted tree leaf nodes in
    omega (arith, step 0, step 1, step 2, step 3, step 4, step 5, step 6)
