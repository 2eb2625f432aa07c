-- What is written of an element and of another node.
use Rattle.std.proofs.Common.{◌≡◌, ℕ, List, [], ◌∷◌, ◌++◌, Some, None, refl, sym, ◌∙◌, ap, append_assoc, codes}
use Rattle.std.proofs.Math.Utf8.{encode, encodes}
use Rattle.std.proofs.lemmas.List.{append-nil}
use Rattle.std.proofs.lemmas.Option.{none-some}
use Rattle.std.proofs.lemmas.Str.{encodes-append, encodes-chars}
use Rattle.std.specs.Prelude.{option_and_then}
use Rattle.std.specs.Option.{option_map_or}
use Rattle.std.specs.Str.{chars, IsUtf8}
use Rattle.document_model.specs.Tree.{Node, Element, Text, Comment, Instruction}
use Rattle.document_model.specs.Scopes.{Tag, with_tag_of, tags_at, elements_around}
use Rattle.document_model.specs.NodeSets.{kept, kept_node}
use Rattle.document_model.specs.Canonical.{Around, inside, node_text, nodes_text, start_text, end_text}
use Rattle.xml_items.proofs.NameTexts.{spells}
use Rattle.doc_spans.specs.declared.documents.Doc.{Doc}
use Rattle.doc_spans.specs.declared.documents.NodeId.{NodeId}
use Rattle.doc_spans.specs.declared.open_tags.OpenTag.{OpenTag}
use Rattle.doc_spans.specs.OpenTags.{tag_in}
use Rattle.doc_spans.specs.Seen.{Has, document_in, path_in, node_in, nodes_in, tag_of, tag_of_node}
use Rattle.doc_spans.specs.Shown.{outer_path}
use Rattle.doc_spans.proofs.Elements.{element_of, nodes_of_element}
use Rattle.doc_spans.proofs.Outward.{own_tag, tags_around}
use Rattle.canon_methods.specs.Rules.{rule_in}
use Rattle.canon_forms.specs.declared.walks.Walk.{Walk}
use Rattle.canon_forms.specs.Walks.{doc_of, held_in, test_in, written_in}
use Rattle.canon_forms.proofs.HeldNodes.{kept_any}
use Rattle.canon_forms.proofs.Walked.{IsThere, there}

-- An end tag.

end_front : encodes (codes "</") ≡ codes "</"
unfolding encode
end_front = refl

end_close : encodes (codes ">") ≡ codes ">"
unfolding encode
end_close = refl

end_bytes : (name : List ℕ) → IsUtf8 name → encodes (codes "</" ++ chars name ++ codes ">") ≡ codes "</" ++ name ++ codes ">"
end_bytes name u =
    encodes-append (codes "</" ++ chars name) (codes ">")
    ∙ ap (λ x. x ++ encodes (codes ">")) (encodes-append (codes "</") (chars name))
    ∙ (λ i. end_front i ++ encodes-chars name u i ++ end_close i)

pub end_written : (out front named name : List ℕ) → IsUtf8 name → front ≡ out ++ codes "</" → named ≡ front ++ name → named ++ codes ">" ≡ out ++ encodes (codes "</" ++ chars name ++ codes ">")
end_written out front named name u f n =
    ap (λ x. x ++ codes ">") (n ∙ ap (λ x. x ++ name) f ∙ append_assoc out (codes "</") name)
    ∙ append_assoc out (codes "</" ++ name) (codes ">")
    ∙ ap (λ x. out ++ x) (sym (end_bytes name u))

-- An element: its start tag, what of its nodes the set holds, and its end tag.
pub element_written : (walk : Walk) (around : Around) (node : NodeId) (tag : OpenTag) (start opened inner : List ℕ) → Some (tag_in tag) ≡ tag_of (doc_of walk) node
    → opened ≡ start ++ encodes (start_text (rule_in walk.rule) around (tag_in tag))
    → inner ++ [] ≡ opened ++ encodes (nodes_text (rule_in walk.rule) (inside (rule_in walk.rule) around (tag_in tag)) (kept (test_in walk) [] (path_in (doc_of walk) node) 0 (nodes_in (doc_of walk) node)))
    → inner ++ encodes (codes "</" ++ chars tag.name.now ++ codes ">") ≡ start ++ written_in walk around node
element_written walk around node tag start opened inner e o i =
    let element = element_of (node_in (doc_of walk) node) (tag_in tag) e in
    let path = path_in (doc_of walk) node in
    let text : Node → List ℕ = λ n. node_text (rule_in walk.rule) around (kept_node (test_in walk) [] path n) in
    let within = nodes_text (rule_in walk.rule) (inside (rule_in walk.rule) around (tag_in tag)) (kept (test_in walk) [] path 0 (nodes_in (doc_of walk) node)) in
    let first = start_text (rule_in walk.rule) around (tag_in tag) in
    let closing = codes "</" ++ chars tag.name.now ++ codes ">" in
    let last : end_text (tag_in tag) ≡ closing = ap (λ x. codes "</" ++ x ++ codes ">") (spells (chars tag.name.now) tag.named) in
    let nodes : kept (test_in walk) (tag_in tag ∷ []) path 0 element.nodes ≡ kept (test_in walk) [] path 0 (nodes_in (doc_of walk) node) =
    kept_any (held_in walk) (tag_in tag ∷ []) [] path 0 element.nodes refl
    ∙ ap (kept (test_in walk) [] path 0) (sym (nodes_of_element (doc_of walk) node (tag_in tag) element)) in
    let whole : written_in walk around node ≡ encodes first ++ encodes within ++ encodes closing =
    ap (λ found. encodes (option_map_or text found [])) element.is
    ∙ (λ k. encodes (first ++ nodes_text (rule_in walk.rule) (inside (rule_in walk.rule) around (tag_in tag)) (nodes k) ++ last k))
    ∙ encodes-append (first ++ within) closing
    ∙ ap (λ x. x ++ encodes closing) (encodes-append first within) in
    ap (λ x. x ++ encodes closing) (sym (append-nil inner) ∙ i ∙ ap (λ x. x ++ encodes within) o ∙ append_assoc start (encodes first) (encodes within))
    ∙ append_assoc start (encodes first ++ encodes within) (encodes closing)
    ∙ ap (λ x. start ++ x) (sym whole)

-- The elements around a node, by the node that holds it.
pub around_of_holder : (doc : Doc) (node parent : NodeId) → Has doc node → (t : IsThere doc parent) → path_in doc parent ≡ outer_path (path_in doc node)
    → elements_around (document_in doc) (path_in doc node) ≡ with_tag_of t.found (elements_around (document_in doc) (path_in doc parent))
around_of_holder doc node parent h t e =
    let n = there doc node h in
    tags_around (document_in doc) (path_in doc node) n.found n.is
    ∙ ap (tags_at (document_in doc)) (sym e)
    ∙ own_tag (document_in doc) (path_in doc parent) t.found t.is

pub with_tag : (doc : Doc) (parent : NodeId) (tag : Tag) (outer : List Tag) → (t : IsThere doc parent) → Some tag ≡ tag_of doc parent → with_tag_of t.found outer ≡ tag ∷ outer
with_tag doc parent tag outer t e = of_found t.found (e ∙ ap (option_and_then tag_of_node) t.is)
  where
    of_found : (n : Node) → Some tag ≡ tag_of_node n → with_tag_of n outer ≡ tag ∷ outer
    of_found (Element name attributes nodes) f = ap (λ o. option_map_or (λ x. x) o tag ∷ outer) (sym f)
    of_found (Text cs) f = absurd (none-some tag (sym f))
    of_found (Comment cs) f = absurd (none-some tag (sym f))
    of_found (Instruction target content) f = absurd (none-some tag (sym f))

pub without_tag : (doc : Doc) (parent : NodeId) (outer : List Tag) → (t : IsThere doc parent) → None ≡ tag_of doc parent → with_tag_of t.found outer ≡ outer
without_tag doc parent outer t e = of_found t.found (e ∙ ap (option_and_then tag_of_node) t.is)
  where
    of_found : (n : Node) → None ≡ tag_of_node n → with_tag_of n outer ≡ outer
    of_found (Element name attributes nodes) f = absurd (none-some _ f)
    of_found (Text cs) f = refl
    of_found (Comment cs) f = refl
    of_found (Instruction target content) f = refl
