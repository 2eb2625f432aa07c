-- The elements with an identifier, one after another.
use Rattle.std.proofs.Common.{◌≡◌, ℕ, suc, List, [], ◌∷◌, ◌++◌, Option, Some, None, refl, sym, ◌∙◌, ap}
use Rattle.std.proofs.lemmas.Option.{none-some}
use Rattle.std.specs.Prelude.{option_and_then}
use Rattle.std.specs.Option.{option_map_or}
use Rattle.document_model.specs.Items.{Attribute}
use Rattle.document_model.specs.Tree.{Node, Nodes, Path, Element, Text, Comment, Instruction}
use Rattle.document_model.specs.Scopes.{Tag}
use Rattle.document_model.specs.NodeSets.{Target, Missing, Double, identified, identified_in, once_each, target_among, target_of}
use Rattle.doc_spans.specs.declared.documents.Doc.{Doc}
use Rattle.doc_spans.specs.declared.documents.NodeId.{NodeId}
use Rattle.doc_spans.specs.Below.{nodes_from}
use Rattle.doc_spans.specs.Seen.{NameBelow, path_in, node_in, nodes_in, nodes_at, document_in, tag_of, tag_of_node}
use Rattle.doc_spans.proofs.ChildSteps.{NextChild, no_child_left}
use Rattle.doc_spans.proofs.Elements.{element_of, nodes_of_element}
use Rattle.node_sets.specs.Answers.{with_one, with_more, identified_at}

joined : (xs ys : List Path) (t : Target) → with_more (xs ++ ys) t ≡ with_more ys (with_more xs t)
joined [] ys t = refl
joined (x ∷ xs) ys t = joined xs ys (with_one x t)

still_double : (xs : List Path) → with_more xs Double ≡ Double
still_double [] = refl
still_double (x ∷ xs) = still_double xs

among : (xs : List Path) → with_more xs Missing ≡ target_among xs
among [] = refl
among (x ∷ []) = refl
among (x ∷ y ∷ xs) = still_double xs

-- the next node among those beside each other
pub next_node : (value : List ℕ) (doc : Doc) (path : Path) (i : ℕ) (child : NodeId) (numbers : List ℕ) (before now start : Target) → NextChild doc path i child.0 numbers
    → now ≡ with_more (identified_at value doc child) before → with_more (identified value path i (nodes_from i (nodes_at (document_in doc) path))) before ≡ start
    → with_more (identified value path (suc i) (nodes_from (suc i) (nodes_at (document_in doc) path))) now ≡ start
next_node value doc path i child numbers before now start next n e =
    let later = identified value path (suc i) (nodes_from (suc i) (nodes_at (document_in doc) path)) in
    let here : identified_at value doc child ≡ identified_in value (path ++ i ∷ []) next.node =
    ap (λ o. option_map_or (identified_in value (path_in doc child)) o []) next.named ∙ ap (λ p. identified_in value p next.node) next.at in
    ap (with_more later) (n ∙ ap (λ xs. with_more xs before) here) ∙ sym (joined (identified_in value (path ++ i ∷ []) next.node) later before)
    ∙ ap (λ nodes. with_more (identified value path i nodes) before) (sym next.here)
    ∙ e

-- all of them
pub all_nodes : (value : List ℕ) (doc : Doc) (path : Path) (i : ℕ) (numbers : List ℕ) (now start : Target) → numbers ≡ [] → NameBelow doc path i numbers
    → with_more (identified value path i (nodes_from i (nodes_at (document_in doc) path))) now ≡ start → now ≡ start
all_nodes value doc path i numbers now start none below e = sym (ap (λ nodes. with_more (identified value path i nodes) now) (no_child_left doc path i numbers none below)) ∙ e

-- an element, by its attributes and then by what it holds
pub whole_element : (value : List ℕ) (doc : Doc) (node : NodeId) (tag : Tag) (attributes : List Attribute) (before first now : Target) → Some tag ≡ tag_of doc node → attributes ≡ tag.attributes
    → first ≡ with_more (once_each value (path_in doc node) attributes) before → now ≡ with_more (identified value (path_in doc node) 0 (nodes_in doc node)) first
    → now ≡ with_more (identified_at value doc node) before
whole_element value doc node tag attributes before first now e same f n =
    let element = element_of (node_in doc node) tag e in
    let path = path_in doc node in
    n
    ∙ (λ i. with_more (identified value path 0 (nodes_of_element doc node tag element i)) ((f ∙ ap (λ as'. with_more (once_each value path as') before) same) i))
    ∙ sym (joined (once_each value path tag.attributes) (identified value path 0 element.nodes) before)
    ∙ sym (ap (λ o. with_more (option_map_or (identified_in value path) o []) before) element.is)

-- another node has none
pub other_node : (value : List ℕ) (doc : Doc) (node : NodeId) (found : Target) → None ≡ tag_of doc node → found ≡ with_more (identified_at value doc node) found
other_node value doc node found e = ap (λ xs. with_more xs found) (by_node (node_in doc node) e)
  where
    by_node : (n : Option Node) → None ≡ option_and_then tag_of_node n → [] ≡ option_map_or (identified_in value (path_in doc node)) n []
    by_node None e = refl
    by_node (Some (Element name attributes nodes)) e = absurd (none-some _ e)
    by_node (Some (Text cs)) e = refl
    by_node (Some (Comment cs)) e = refl
    by_node (Some (Instruction target content)) e = refl

pub whole_document : (value : List ℕ) (document : Nodes) (now : Target) → now ≡ with_more (identified value [] 0 document) Missing → now ≡ target_of value document
whole_document value document now e = e ∙ among (identified value [] 0 document)
