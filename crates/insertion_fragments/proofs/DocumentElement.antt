-- The path of the document element.
use Rattle.std.proofs.Common.{◌≡◌, ℕ, zero, suc, ◌+◌, List, [], ◌∷◌, Some, None, refl, sym, ◌∙◌, ap, subst, arith}
use Rattle.std.proofs.lemmas.Option.{none-some, same_Some}
use Rattle.std.specs.Prelude.{option_and_then}
use Rattle.document_model.specs.Tree.{Node, Nodes, Element, Text, Comment, Instruction, no_nodes, ◌⨾◌, nth, descend, IsElement, IsElementAt}
use Rattle.document_model.specs.Documents.{fault, document_of}
use Rattle.signature_model.specs.Prepared.{root_path}
use Rattle.doc_spans.proofs.Roots.{has_root}

-- the first element
record FirstElement (j : ℕ) (nodes : Nodes) : Type 0 where
  pub place : ℕ
  pub node : Node
  pub path : root_path j nodes ≡ (place + j) ∷ []
  pub there : nth place nodes ≡ Some node
  pub element : IsElement node

later : (j : ℕ) (first : Node) (nodes : Nodes) → root_path j (first ⨾ nodes) ≡ root_path (suc j) nodes → FirstElement (suc j) nodes → FirstElement j (first ⨾ nodes)
later j first nodes same f = record {
  place = suc f.place;
  node = f.node;
  path = same ∙ f.path ∙ ap (λ n. n ∷ []) (sum f.place j);
  there = f.there;
  element = f.element;
}
  where
    sum : (a j : ℕ) → a + suc j ≡ suc a + j
    sum a j = omega arith

first_element : (j k : ℕ) (nodes : Nodes) (node : Node) → nth k nodes ≡ Some node → IsElement node → FirstElement j nodes
first_element j k no_nodes node e h = absurd (none-some node e)
first_element j k (Element name attributes inner ⨾ nodes) node e h = record { place = 0; node = Element name attributes inner; path = ap (λ n. n ∷ []) (none j); there = refl; element = tt }
  where
    none : (j : ℕ) → j ≡ 0 + j
    none j = omega arith
first_element j zero (Text cs ⨾ nodes) node e h = absurd (subst IsElement (sym (same_Some (Text cs) node e)) h)
first_element j zero (Comment cs ⨾ nodes) node e h = absurd (subst IsElement (sym (same_Some (Comment cs) node e)) h)
first_element j zero (Instruction target content ⨾ nodes) node e h = absurd (subst IsElement (sym (same_Some (Instruction target content) node e)) h)
first_element j (suc k) (Text cs ⨾ nodes) node e h = later j (Text cs) nodes refl (first_element (suc j) k nodes node e h)
first_element j (suc k) (Comment cs ⨾ nodes) node e h = later j (Comment cs) nodes refl (first_element (suc j) k nodes node e h)
first_element j (suc k) (Instruction target content ⨾ nodes) node e h = later j (Instruction target content) nodes refl (first_element (suc j) k nodes node e h)

pub root_is : (bytes : List ℕ) → fault bytes ≡ None → IsElementAt (document_of bytes) (root_path 0 (document_of bytes))
root_is bytes none =
    let root = has_root bytes none in
    let f = first_element 0 root.0 (document_of bytes) root.1 root.2 root.3 in
    let at : root_path 0 (document_of bytes) ≡ f.place ∷ [] = f.path ∙ ap (λ n. n ∷ []) (plus f.place) in
    subst (IsElementAt (document_of bytes)) (sym at) (f.node, ap (option_and_then (descend [])) f.there, f.element)
  where
    plus : (a : ℕ) → a + 0 ≡ a
    plus a = omega arith
