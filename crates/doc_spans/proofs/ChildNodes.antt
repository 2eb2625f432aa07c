-- The numbers of the children of a node name its children, one after another, and all of them.
use Rattle.std.proofs.Common.{◌≡◌, ℕ, zero, suc, ◌+◌, ◌<◌, ◌≤◌, Bool, true, false, cond, ◌&&◌, List, [], ◌∷◌, ◌++◌, length, Option, Some, None, refl, sym, ◌∙◌, ap, subst, arith, ◌⊎◌, inl, inr, add-zero}
use Rattle.std.proofs.lemmas.Option.{none-some, same_Some}
use Rattle.std.proofs.lemmas.List.Sorted.{All-permutation}
use Rattle.std.specs.Prelude.{map, slice_get, option_map, option_and_then}
use Rattle.std.specs.Option.{option_map_or}
use Rattle.document_model.specs.Tree.{Node, Nodes, Path, no_nodes, ◌⨾◌, nth, below, descend, node_at, count, tree_after}
use Rattle.document_model.specs.Documents.{run, limits, document_of}
use Rattle.document_model.specs.Places.{Place, places_of}
use Rattle.doc_spans.specs.Shown.{Shown, IsShownOf, path_at, is_child, children_from, children_of}
use Rattle.doc_spans.specs.Seen.{nodes_at}
use Rattle.doc_spans.specs.Below.{paths_below}
use Rattle.doc_spans.specs.View.{Each}
use Rattle.doc_spans.proofs.AllNamed.{Has, all_named}
use Rattle.doc_spans.proofs.Each.{each_get}
use Rattle.doc_spans.proofs.Marks.{onto, eq_self}
use Rattle.doc_spans.proofs.Named.{IsNode, paths}
use Rattle.doc_spans.proofs.NodeTexts.{stands_at, all_of_each, each_of_all}
use Rattle.doc_spans.proofs.Numbered.{AreNumbered}
use Rattle.doc_spans.proofs.Run.{run_good, places_of_run}
use Rattle.doc_spans.proofs.TextNodes.{found_self}
use Rattle.doc_spans.proofs.TextPlaces.{same_or_not}

-- Nodes by their numbers among the nodes beside them.

pub nth_within : (k : ℕ) (nodes : Nodes) (node : Node) → nth k nodes ≡ Some node → k < count nodes
nth_within k no_nodes node e = absurd (none-some node e)
nth_within zero (first ⨾ nodes) node e = omega arith
nth_within (suc k) (first ⨾ nodes) node e = let h = nth_within k nodes node e in omega (arith, h)

pub nth_there : (k : ℕ) (nodes : Nodes) → k < count nodes → (node : Node) × (nth k nodes ≡ Some node)
nth_there k no_nodes h = absurd (omega (arith, h))
nth_there zero (first ⨾ nodes) h = (first, refl)
nth_there (suc k) (first ⨾ nodes) h = nth_there k nodes (omega (arith, h))

-- a child of what a path leads to
below_descend : (path : Path) (node : Node) (k : ℕ) → descend (path ++ k ∷ []) node ≡ nth k (option_map_or below (descend path node) no_nodes)
below_descend [] node k = found_self (nth k (below node))
below_descend (j ∷ path) node k = by_child (λ child. below_descend path child k) (nth j (below node))
  where
    by_child : ((child : Node) → descend (path ++ k ∷ []) child ≡ nth k (option_map_or below (descend path child) no_nodes))
        → (o : Option Node) → option_and_then (descend (path ++ k ∷ [])) o ≡ nth k (option_map_or below (option_and_then (descend path) o) no_nodes)
    by_child further None = refl
    by_child further (Some child) = further child

pub child_at : (document : Nodes) (path : Path) (k : ℕ) → node_at document (path ++ k ∷ []) ≡ nth k (nodes_at document path)
child_at document [] k = found_self (nth k document)
child_at document (j ∷ path) k = by_first (nth j document)
  where
    by_first : (o : Option Node) → option_and_then (descend (path ++ k ∷ [])) o ≡ nth k (option_map_or below (option_and_then (descend path) o) no_nodes)
    by_first None = refl
    by_first (Some first) = below_descend path first k

-- Paths of children.

is_child_of : (path : Path) (k : ℕ) → is_child path (path ++ k ∷ []) ≡ true
is_child_of [] k = refl
is_child_of (j ∷ path) k = ap (λ b. b && is_child path (path ++ k ∷ [])) (eq_self j) ∙ is_child_of path k

last_number : (path : Path) (a b : ℕ) → path ++ a ∷ [] ≡ path ++ b ∷ [] → a ≡ b
last_number [] a b e = ap first e
  where
    first : Path → ℕ
    first [] = 0
    first (n ∷ path) = n
last_number (k ∷ path) a b e = last_number path a b (ap rest e)
  where
    rest : Path → Path
    rest [] = []
    rest (n ∷ path) = path

get_below : (outer : Path) (i n j : ℕ) (path : Path) → slice_get (paths_below outer i n) j ≡ Some path → (j < n) × (path ≡ outer ++ (i + j) ∷ [])
get_below outer i zero j path e = absurd (none-some path e)
get_below outer i (suc n) zero path e = (omega arith, sym (same_Some _ path e) ∙ ap (λ m. outer ++ m ∷ []) (sym (add-zero i)))
get_below outer i (suc n) (suc j) path e =
    let h = get_below outer (suc i) n j path e in (let l = h.0 in omega (arith, l), h.1 ∙ ap (λ m. outer ++ m ∷ []) (let f : suc i + j ≡ i + suc j = omega arith in f))

below_there : (outer : Path) (i n j : ℕ) → j < n → slice_get (paths_below outer i n) j ≡ Some (outer ++ (i + j) ∷ [])
below_there outer i zero j h = absurd (omega (arith, h))
below_there outer i (suc n) zero h = ap (λ m. Some (outer ++ m ∷ [])) (sym (add-zero i))
below_there outer i (suc n) (suc j) h = below_there outer (suc i) n j (omega (arith, h)) ∙ ap (λ m. Some (outer ++ m ∷ [])) (let f : suc i + j ≡ i + suc j = omega arith in f)

-- Numbers of children.

pub children_within : (outer : Path) (k : ℕ) (places : List Place) → Each (λ n. n < k + length places) (children_from outer k places)
children_within outer k [] = tt
children_within outer k (place ∷ places) = go (is_child outer place.path) (each_less (children_from outer (suc k) places) (children_within outer (suc k) places))
  where
    each_less : (ns : List ℕ) → Each (λ n. n < suc k + length places) ns → Each (λ n. n < k + length (place ∷ places)) ns
    each_less [] h = tt
    each_less (n ∷ ns) h = (let l = h.0 in omega (arith, l), each_less ns h.1)

    go : (b : Bool) → Each (λ n. n < k + length (place ∷ places)) (children_from outer (suc k) places)
        → Each (λ n. n < k + length (place ∷ places)) (cond b (k ∷ children_from outer (suc k) places) (children_from outer (suc k) places))
    go true h = (omega arith, h)
    go false h = h

child_there : (outer : Path) (k q : ℕ) (places : List Place) (place : Place) → slice_get places q ≡ Some place → is_child outer place.path ≡ true
    → (i : ℕ) × (slice_get (children_from outer k places) i ≡ Some (k + q))
child_there outer k q [] place e c = absurd (none-some place e)
child_there outer k zero (first ∷ places) place e c =
    let is : is_child outer first.path ≡ true = (let f : Place → Bool = λ p. is_child outer p.path in ap f (same_Some first place e)) ∙ c in
    (0, ap (λ b. slice_get (cond b (k ∷ children_from outer (suc k) places) (children_from outer (suc k) places)) 0) is ∙ ap Some (sym (add-zero k)))
child_there outer k (suc q) (first ∷ places) place e c = go (is_child outer first.path) (child_there outer (suc k) q places place e c)
  where
    same : suc k + q ≡ k + suc q
    same = omega arith

    go : (b : Bool) → (i : ℕ) × (slice_get (children_from outer (suc k) places) i ≡ Some (suc k + q))
        → (i : ℕ) × (slice_get (cond b (k ∷ children_from outer (suc k) places) (children_from outer (suc k) places)) i ≡ Some (k + suc q))
    go true h = (suc h.0, h.1 ∙ ap Some same)
    go false h = (h.0, h.1 ∙ ap Some same)

get_map : {X Y : Type 0} (f : X → Y) (xs : List X) (i : ℕ) → slice_get (map f xs) i ≡ option_map f (slice_get xs i)
get_map f [] i = refl
get_map f (x ∷ xs) zero = refl
get_map f (x ∷ xs) (suc i) = get_map f xs i

pub get_there : {X : Type 0} (xs : List X) (i : ℕ) → i < length xs → (x : X) × (slice_get xs i ≡ Some x)
get_there [] i h = absurd (omega (arith, h))
get_there (x ∷ xs) zero h = (x, refl)
get_there (x ∷ xs) (suc i) h = get_there xs i (omega (arith, h))

pub path_at_place : (shown : Shown) (q : ℕ) (place : Place) → slice_get shown.places q ≡ Some place → path_at shown q ≡ place.path
path_at_place shown q place e = ap (λ o. option_map_or (λ path. path) o []) (get_map (λ p. p.path) shown.places q ∙ ap (option_map (λ p. p.path)) e)

-- The children are as many as the nodes there.

no_more : (shown : Shown) (bytes : List ℕ) (path : Path) → IsShownOf shown bytes → AreNumbered shown path
    → length (children_of shown path) ≤ count (nodes_at (document_of bytes) path)
no_more shown bytes path is numbered = by_length (length (children_of shown path)) refl
  where
    by_length : (n : ℕ) → length (children_of shown path) ≡ n → n ≤ count (nodes_at (document_of bytes) path)
    by_length zero e = omega arith
    by_length (suc n) e =
        let child = get_there (children_of shown path) n (omega (arith, e)) in
        let within = each_get (λ q. q < 0 + length shown.places) (children_of shown path) n child.0 (children_within path 0 shown.places) child.1 in
        let place = get_there shown.places child.0 (omega (arith, within)) in
        let at : path_at shown child.0 ≡ path ++ n ∷ [] =
        same_Some _ _ (sym (get_map (path_at shown) (children_of shown path) n ∙ ap (option_map (path_at shown)) child.1)
        ∙ ap (λ l. slice_get l n) numbered ∙ below_there path 0 (length (children_of shown path)) n (omega (arith, e)))
        ∙ ap (λ m. path ++ m ∷ []) (let f : 0 + n ≡ n = omega arith in f) in
        let seen = (stands_at shown bytes child.0 place.0 is place.1).0 in
        let h = nth_within n (nodes_at (document_of bytes) path) seen.node
        (sym (child_at (document_of bytes) path n) ∙ ap (node_at (document_of bytes)) (sym at ∙ path_at_place shown child.0 place.0 place.1) ∙ seen.named) in
        omega (arith, h)

-- a place with a path, or none
pub find_path : (target : Path) (places : List Place) → ((q : ℕ) × (place : Place) × (slice_get places q ≡ Some place) × (place.path ≡ target)) ⊎ Each (λ place. place.path ≡ target → ⊥) places
find_path target [] = inr tt
find_path target (place ∷ places) = elim (same_or_not place.path target) [
  | inl same ↦ inl (0, place, refl, same)
  | inr other ↦ elim (find_path target places) [ inl h ↦ inl (suc h.0, h.1, h.2, h.3) | inr h ↦ inr (other, h) ]
]

pub has_place : (ps : List Place) (path : Path) → Has (paths ps) path → Each (λ place. place.path ≡ path → ⊥) ps → ⊥
has_place [] path h none = none-some path h.1
has_place (place ∷ ps) path h none = by_number (λ k e. has_place ps path (k, e) none.1) h.0 h.1
  where
    by_number : ((k : ℕ) → slice_get (paths ps) k ≡ Some path → ⊥) → (k : ℕ) → slice_get (paths (place ∷ ps)) k ≡ Some path → ⊥
    by_number further zero e = none.0 (same_Some place.path path e)
    by_number further (suc k) e = further k e

-- each node of the document has a number
pub number_of : (shown : Shown) (bytes : List ℕ) (path : Path) → IsShownOf shown bytes → IsNode (document_of bytes) path
    → (q : ℕ) × (place : Place) × (slice_get shown.places q ≡ Some place) × (place.path ≡ path)
unfolding document_of
number_of shown bytes path is node = elim (find_path path shown.places) [
  | inl h ↦ h
  | inr none ↦
      let pieces = onto (run limits bytes).pieces [] in
      let good = run_good limits (length bytes) [] bytes tt in
      let P : Place → Type 0 = λ place. place.path ≡ path → ⊥ in
      let Q : Nodes → Type 0 = λ tree. IsNode tree path in
      let R : List Place → Type 0 = λ ps. Has (paths ps) path in
      absurd (has_place (places_of bytes) path
      (subst R (sym (places_of_run bytes)) (all_named pieces good.follow path (subst Q (ap tree_after (sym good.before)) node)))
      (each_of_all P (places_of bytes) (All-permutation P shown.places (places_of bytes) is.tree.numbered (all_of_each P shown.places none))))
]

no_fewer : (shown : Shown) (bytes : List ℕ) (path : Path) → IsShownOf shown bytes → AreNumbered shown path
    → length (children_of shown path) < count (nodes_at (document_of bytes) path) → ⊥
no_fewer shown bytes path is numbered h =
    let l = length (children_of shown path) in
    let node = nth_there l (nodes_at (document_of bytes) path) h in
    let found = number_of shown bytes (path ++ l ∷ []) is (node.0, child_at (document_of bytes) path l ∙ node.1) in
    let child = child_there path 0 found.0 shown.places found.1 found.2 (ap (is_child path) found.3 ∙ is_child_of path l) in
    let at : path_at shown found.0 ≡ path ++ l ∷ [] = path_at_place shown found.0 found.1 found.2 ∙ found.3 in
    let listed : slice_get (paths_below path 0 l) child.0 ≡ Some (path ++ l ∷ []) =
    ap (λ xs. slice_get xs child.0) (sym numbered) ∙ get_map (path_at shown) (children_of shown path) child.0
    ∙ ap (option_map (path_at shown)) (child.1 ∙ ap Some (let f : 0 + found.0 ≡ found.0 = omega arith in f)) ∙ ap Some at in
    let below_is = get_below path 0 l child.0 (path ++ l ∷ []) listed in
    let same = last_number path l (0 + child.0) below_is.1 in
    let less = below_is.0 in omega (arith, same, less)

pub count_is : (shown : Shown) (bytes : List ℕ) (path : Path) → IsShownOf shown bytes → AreNumbered shown path
    → length (children_of shown path) ≡ count (nodes_at (document_of bytes) path)
count_is shown bytes path is numbered =
    let more = no_more shown bytes path is numbered in
    let fewer = no_fewer shown bytes path is numbered in omega (arith, more, fewer)
