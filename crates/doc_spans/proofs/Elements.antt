-- What a start tag says of its element, and the steps of a walk through the nodes below it.
use Rattle.std.proofs.Common.{◌≡◌, ℕ, zero, suc, ◌<◌, ◌≤◌, List, ◌∷◌, Option, Some, None, sym, ◌∙◌, ap, subst, arith}
use Rattle.std.proofs.lemmas.Option.{none-some, same_Some}
use Rattle.std.specs.Prelude.{option_and_then}
use Rattle.std.specs.Option.{option_map_or}
use Rattle.document_model.specs.Tree.{Node, Nodes, Path, Element, Text, Comment, Instruction, no_nodes, ◌⨾◌, nth}
use Rattle.document_model.specs.Scopes.{Tag}
use Rattle.doc_spans.specs.declared.documents.Doc.{Doc}
use Rattle.doc_spans.specs.declared.documents.NodeId.{NodeId}
use Rattle.doc_spans.specs.Seen.{NameBelow, node_in, nodes_in, path_in, tag_of_node}
use Rattle.doc_spans.specs.Sizes.{node_size, nodes_size, size_in}
use Rattle.doc_spans.proofs.ChildSteps.{NextChild, next_child, nodes_of_node}

-- the element of a tag
pub record IsElementOf (found : Option Node) (tag : Tag) : Type 0 where
  pub nodes : Nodes
  pub is : found ≡ Some (Element tag.name tag.attributes nodes)

pub element_of : (found : Option Node) (tag : Tag) → Some tag ≡ option_and_then tag_of_node found → IsElementOf found tag
element_of None tag e = absurd (none-some tag (sym e))
element_of (Some (Element name attributes nodes)) tag e = record {
  nodes = nodes;
  is = ap (λ t. Some (Element t.name t.attributes nodes)) (sym (same_Some tag (record { name = name; attributes = attributes }) e));
}
element_of (Some (Text cs)) tag e = absurd (none-some tag (sym e))
element_of (Some (Comment cs)) tag e = absurd (none-some tag (sym e))
element_of (Some (Instruction target content)) tag e = absurd (none-some tag (sym e))

-- the nodes that it holds
pub nodes_of_element : (doc : Doc) (node : NodeId) (tag : Tag) → (e : IsElementOf (node_in doc node) tag) → nodes_in doc node ≡ e.nodes
nodes_of_element doc node tag e = nodes_of_node _ (path_in doc node) _ e.is

-- the next child of an iterator
pub child_of : (doc : Doc) (path : Path) (i : ℕ) (numbers behind : List ℕ) (child : NodeId) → numbers ≡ child.0 ∷ behind → NameBelow doc path i numbers → NextChild doc path i child.0 behind
child_of doc path i numbers behind child e h = let P : List ℕ → Type 0 = NameBelow doc path i in next_child doc path i child.0 behind (subst P e h)

size_nth : (i : ℕ) (nodes : Nodes) (node : Node) → nth i nodes ≡ Some node → node_size node ≤ nodes_size nodes
size_nth i no_nodes node e = absurd (none-some node e)
size_nth zero (first ⨾ nodes) node e = let n = ap node_size (same_Some first node e) in omega (arith, n)
size_nth (suc i) (first ⨾ nodes) node e = let h = size_nth i nodes node e in omega (arith, h)

-- a child is smaller than the element that holds it
pub smaller : (doc : Doc) (node child : NodeId) (i : ℕ) (numbers : List ℕ) (tag : Tag) → IsElementOf (node_in doc node) tag → NextChild doc (path_in doc node) i child.0 numbers
    → size_in doc child < size_in doc node
smaller doc node child i numbers tag e next =
    let here = ap (λ o. option_map_or node_size o 0) e.is in
    let there = ap (λ o. option_map_or node_size o 0) next.named in
    let less = size_nth i e.nodes next.node (ap (nth i) (sym (nodes_of_element doc node tag e)) ∙ next.nth_is) in omega (arith, here, there, less)
