-- One child after another.
use Rattle.std.proofs.Common.{◌≡◌, ℕ, zero, suc, ◌-◌, ◌<◌, ◌≤◌, List, [], ◌∷◌, ◌++◌, length, Some, refl, sym, ◌∙◌, ap, arith}
use Rattle.std.proofs.lemmas.Option.{none-some}
use Rattle.std.specs.Prelude.{map}
use Rattle.std.specs.List.{All}
use Rattle.std.specs.Option.{option_map_or}
use Rattle.document_model.specs.Tree.{Node, Nodes, Path, no_nodes, ◌⨾◌, nth, below, node_at, count}
use Rattle.doc_spans.specs.declared.documents.Doc.{Doc}
use Rattle.doc_spans.specs.Below.{paths_below, nodes_from}
use Rattle.doc_spans.specs.Seen.{NameBelow, nodes_at, shown_in, document_in}
use Rattle.doc_spans.specs.Shown.{path_at}
use Rattle.doc_spans.proofs.ChildNodes.{nth_there, child_at}

from_nth : (i : ℕ) (nodes : Nodes) (node : Node) → nth i nodes ≡ Some node → nodes_from i nodes ≡ node ⨾ nodes_from (suc i) nodes
from_nth i no_nodes node e = absurd (none-some node e)
from_nth zero (first ⨾ nodes) node e = ap (λ o. option_map_or (λ n. n) o first ⨾ nodes) e
from_nth (suc i) (first ⨾ nodes) node e = from_nth i nodes node e

from_past : (i : ℕ) (nodes : Nodes) → count nodes ≤ i → nodes_from i nodes ≡ no_nodes
from_past zero no_nodes h = refl
from_past (suc i) no_nodes h = refl
from_past zero (node ⨾ nodes) h = absurd (omega (arith, h))
from_past (suc i) (node ⨾ nodes) h = from_past i nodes (omega (arith, h))

pub nodes_of_node : (document : Nodes) (path : Path) (node : Node) → node_at document path ≡ Some node → nodes_at document path ≡ below node
nodes_of_node document [] node e = absurd (none-some node e)
nodes_of_node document (k ∷ path) node e = ap (λ o. option_map_or below o no_nodes) e

-- the next child, and those behind it
pub record NextChild (doc : Doc) (path : Path) (i number : ℕ) (numbers : List ℕ) : Type 0 where
  pub within : number < length (shown_in doc).places
  pub at : path_at (shown_in doc) number ≡ path ++ i ∷ []
  pub node : Node
  pub named : node_at (document_in doc) (path_at (shown_in doc) number) ≡ Some node
  pub nth_is : nth i (nodes_at (document_in doc) path) ≡ Some node
  pub here : nodes_from i (nodes_at (document_in doc) path) ≡ node ⨾ nodes_from (suc i) (nodes_at (document_in doc) path)
  pub later : NameBelow doc path (suc i) numbers

pub next_child : (doc : Doc) (path : Path) (i number : ℕ) (numbers : List ℕ) → NameBelow doc path i (number ∷ numbers) → NextChild doc path i number numbers
next_child doc path i number numbers h = by_many (count nodes - i) refl h.paths
  where
    nodes : Nodes
    nodes = nodes_at (document_in doc) path

    first : List Path → Path
    first [] = []
    first (p ∷ ps) = p

    others : List Path → List Path
    others [] = []
    others (p ∷ ps) = ps

    rest_within : All (λ k. k < length (shown_in doc).places) (number ∷ numbers) → All (λ k. k < length (shown_in doc).places) numbers
    rest_within w k d lt = w (suc k) d (omega (arith, lt))

    by_many : (m : ℕ) → count (nodes_at (document_in doc) path) - i ≡ m → path_at (shown_in doc) number ∷ map (path_at (shown_in doc)) numbers ≡ paths_below path i (count (nodes_at (document_in doc) path) - i)
        → NextChild doc path i number numbers
    by_many zero e p = (let f : path_at (shown_in doc) number ∷ map (path_at (shown_in doc)) numbers ≡ [] = p ∙ ap (paths_below path i) e in (cc))
    by_many (suc m) e p =
        let q : path_at (shown_in doc) number ∷ map (path_at (shown_in doc)) numbers ≡ (path ++ i ∷ []) ∷ paths_below path (suc i) m = p ∙ ap (paths_below path i) e in
        let found = nth_there i (nodes_at (document_in doc) path) (omega (arith, e)) in record {
          within = h.within zero number (omega arith);
          at = ap first q;
          node = found.0;
          named = ap (node_at (document_in doc)) (ap first q) ∙ child_at (document_in doc) path i ∙ found.1;
          nth_is = found.1;
          here = from_nth i (nodes_at (document_in doc) path) found.0 found.1;
          later = record {
            within = rest_within h.within;
            paths = ap others q ∙ ap (paths_below path (suc i)) (let n : m ≡ count (nodes_at (document_in doc) path) - suc i = omega (arith, e) in n);
          };
        }

pub no_child_left : (doc : Doc) (path : Path) (i : ℕ) (numbers : List ℕ) → numbers ≡ [] → NameBelow doc path i numbers → nodes_from i (nodes_at (document_in doc) path) ≡ no_nodes
no_child_left doc path i numbers none h = by_many (count (nodes_at (document_in doc) path) - i) refl (ap (map (path_at (shown_in doc))) (sym none) ∙ h.paths)
  where
    by_many : (m : ℕ) → count (nodes_at (document_in doc) path) - i ≡ m → [] ≡ paths_below path i (count (nodes_at (document_in doc) path) - i)
        → nodes_from i (nodes_at (document_in doc) path) ≡ no_nodes
    by_many zero e p = from_past i (nodes_at (document_in doc) path) (omega (arith, e))
    by_many (suc m) e p = (let f : [] ≡ (path ++ i ∷ []) ∷ paths_below path (suc i) m = p ∙ ap (paths_below path i) e in (cc))

-- one item more was given
pub one_more : {X : Type 0} (xs : List X) (x : X) → suc (length xs) ≡ length (xs ++ x ∷ [])
one_more [] x = refl
one_more (y ∷ xs) x = ap suc (one_more xs x)
