-- The nodes at the place where a tree grows: how many they are, and the paths there.
use Rattle.std.proofs.Common.{◌≡◌, ℕ, zero, suc, pred, [], ◌∷◌, ◌++◌, Option, Some, None, refl, sym, ◌∙◌, ap}
use Rattle.std.specs.Prelude.{option_map, option_and_then}
use Rattle.std.specs.Option.{option_map_or}
use Rattle.document_model.specs.Tree.{Node, Nodes, Path, Element, Text, Comment, Instruction, no_nodes, ◌⨾◌, nth, below, descend, node_at, IsElement, joined, in_nodes_of, in_last, grown, last_of, last_path, count}
use Rattle.document_model.proofs.Grown.{Spine, last_in_last}
use Rattle.document_model.proofs.Put.{last_nth}

-- the nodes that are last at a depth
abbrev pub inside : ℕ → Nodes → Nodes
inside zero nodes = nodes
inside (suc d) nodes = option_map_or (λ node. inside d (below node)) (last_of nodes) no_nodes

at_some : {A B : Type 0} (f : A → B) (o : Option A) (d : B) (x : A) → o ≡ Some x → option_map_or f o d ≡ f x
at_some f o d x e = ap (λ p. option_map_or f p d) e

pub same_either_way : {A B : Type 0} (b : B) (o : Option A) → option_map_or (λ x. b) o b ≡ b
same_either_way b None = refl
same_either_way b (Some x) = refl

below_changed : (f : Nodes → Nodes) (node : Node) → IsElement node → below (in_nodes_of f node) ≡ f (below node)
below_changed f (Element name attributes inner) is = refl
below_changed f (Text cs) is = absurd is
below_changed f (Comment cs) is = absurd is
below_changed f (Instruction target content) is = absurd is

count_in_last : (f : Node → Node) (nodes : Nodes) → count (in_last f nodes) ≡ count nodes
count_in_last f no_nodes = refl
count_in_last f (node ⨾ no_nodes) = refl
count_in_last f (node ⨾ next ⨾ nodes) = ap suc (count_in_last f (next ⨾ nodes))

last_grown : (f : Nodes → Nodes) (nodes : Nodes) (node : Node) → last_of nodes ≡ Some node → last_of (in_last (in_nodes_of f) nodes) ≡ Some (in_nodes_of f node)
last_grown f nodes node e = last_in_last (in_nodes_of f) nodes ∙ ap (option_map (in_nodes_of f)) e

-- growing adds to the nodes there
pub inside_grown : (d : ℕ) (x nodes : Nodes) → Spine d nodes → inside d (grown d x nodes) ≡ joined (inside d nodes) x
inside_grown zero x nodes s = refl
inside_grown (suc d) x nodes s =
    at_some (λ node. inside d (below node)) _ no_nodes _ (last_grown (grown d x) nodes s.0 s.1)
    ∙ ap (inside d) (below_changed (grown d x) s.0 s.2)
    ∙ inside_grown d x (below s.0) s.3
    ∙ ap (λ ns. joined ns x) (sym (at_some (λ node. inside d (below node)) _ no_nodes _ s.1))

-- and leaves the path of the element that is open
pub path_grown : (d : ℕ) (x nodes : Nodes) → Spine d nodes → last_path d (grown d x nodes) ≡ last_path d nodes
path_grown zero x nodes s = refl
path_grown (suc d) x nodes s =
    ap (λ n. pred n ∷ option_map_or (λ node. last_path d (below node)) (last_of (grown (suc d) x nodes)) []) (count_in_last (in_nodes_of (grown d x)) nodes)
    ∙ ap (λ p. pred (count nodes) ∷ p)
    (at_some (λ node. last_path d (below node)) _ [] _ (last_grown (grown d x) nodes s.0 s.1)
    ∙ ap (last_path d) (below_changed (grown d x) s.0 s.2)
    ∙ path_grown d x (below s.0) s.3
    ∙ sym (at_some (λ node. last_path d (below node)) _ [] _ s.1))

-- the path of the last node there
pub path_of_last : (d : ℕ) (nodes : Nodes) → Spine d nodes → last_path (suc d) nodes ≡ last_path d nodes ++ pred (count (inside d nodes)) ∷ []
path_of_last zero nodes s = ap (λ p. pred (count nodes) ∷ p) (same_either_way [] (last_of nodes))
path_of_last (suc d) nodes s =
    ap (λ p. pred (count nodes) ∷ p)
    (at_some (λ node. last_path (suc d) (below node)) _ [] _ s.1
    ∙ path_of_last d (below s.0) s.3
    ∙ ap (λ p. p ++ pred (count (inside d (below s.0))) ∷ []) (sym (at_some (λ node. last_path d (below node)) _ [] _ s.1))
    ∙ ap (λ n. option_map_or (λ node. last_path d (below node)) (last_of nodes) [] ++ pred (count n) ∷ []) (sym (at_some (λ node. inside d (below node)) _ no_nodes _ s.1)))

-- one deeper
abbrev pub inside_last : Nodes → Nodes
inside_last nodes = option_map_or below (last_of nodes) no_nodes

pub inside_deeper : (d : ℕ) (nodes : Nodes) → inside (suc d) nodes ≡ inside_last (inside d nodes)
inside_deeper zero nodes = refl
inside_deeper (suc d) nodes = by_last (λ node. inside_deeper d (below node)) (last_of nodes)
  where
    by_last : ((node : Node) → inside (suc d) (below node) ≡ inside_last (inside d (below node)))
        → (o : Option Node) → option_map_or (λ node. inside (suc d) (below node)) o no_nodes ≡ inside_last (option_map_or (λ node. inside d (below node)) o no_nodes)
    by_last deeper None = refl
    by_last deeper (Some node) = deeper node

-- Paths through the place.

descend_on : (path : Path) (k : ℕ) (rest : Path) (node : Node) → descend (path ++ k ∷ rest) node ≡ node_at (below node) (path ++ k ∷ rest)
descend_on [] k rest node = refl
descend_on (j ∷ path) k rest node = refl

pub at_inside : (d : ℕ) (nodes : Nodes) (k : ℕ) (rest : Path) → Spine d nodes → node_at nodes (last_path d nodes ++ k ∷ rest) ≡ node_at (inside d nodes) (k ∷ rest)
at_inside zero nodes k rest s = refl
at_inside (suc d) nodes k rest s =
    ap (λ p. option_and_then (descend (p ++ k ∷ rest)) (nth (pred (count nodes)) nodes)) (at_some (λ node. last_path d (below node)) _ [] _ s.1)
    ∙ ap (option_and_then (descend (last_path d (below s.0) ++ k ∷ rest))) (last_nth nodes s.0 s.1)
    ∙ descend_on (last_path d (below s.0)) k rest s.0
    ∙ at_inside d (below s.0) k rest s.3
    ∙ ap (λ ns. node_at ns (k ∷ rest)) (sym (at_some (λ node. inside d (below node)) _ no_nodes _ s.1))

nth_count : (nodes : Nodes) → nth (count nodes) nodes ≡ None
nth_count no_nodes = refl
nth_count (node ⨾ nodes) = nth_count nodes

-- no node stands behind the last one there
pub none_behind : (d : ℕ) (nodes : Nodes) → Spine d nodes → node_at nodes (last_path d nodes ++ count (inside d nodes) ∷ []) ≡ None
none_behind d nodes s = at_inside d nodes (count (inside d nodes)) [] s ∙ ap (option_and_then (descend [])) (nth_count (inside d nodes))
