-- What prefixes and names mean at a node, told on the way outward from it.
use Rattle.std.proofs.Common.{◌≡◌, ℕ, suc, ◌<◌, Bool, true, false, ◌&&◌, List, [], ◌∷◌, length, Option, Some, None, is_some, refl, sym, ◌∙◌, ap, arith}
use Rattle.std.specs.Prelude.{option_and_then, IfSome, IfNone}
use Rattle.std.specs.Option.{option_map_or}
use Rattle.std.specs.Str.{bytes_eq}
use Rattle.document_model.specs.Names.{Expanded, same_expanded}
use Rattle.document_model.specs.Tree.{Node, Element, Text, Comment, Instruction}
use Rattle.document_model.specs.Scopes.{Tag, tags_at, elements_around, with_tag_of, declared_value, declared_space, value_or, element_name, is_named, attribute_value, value_among}
use Rattle.xml_items.proofs.AsciiTexts.{iff_same, same_from}
use Rattle.std.specs.Cmp.Lexicographic.{same_text}
use Rattle.doc_spans.specs.declared.documents.Doc.{Doc}
use Rattle.doc_spans.specs.declared.documents.NodeId.{NodeId}
use Rattle.doc_spans.specs.Seen.{Has, document_in, path_in, node_in, tag_of, tag_of_node}
use Rattle.doc_spans.specs.Shown.{outer_path}
use Rattle.doc_spans.proofs.Calls.{node_there}
use Rattle.doc_spans.proofs.Elements.{IsElementOf, element_of}
use Rattle.doc_spans.proofs.Outward.{own_tag, outward_tags}
use Rattle.doc_spans.proofs.Within.{parent_nearer}
use Rattle.node_sets.specs.Scopes.{scope_of, scope_from, named_at, attribute_at}

-- The nearest declaration.

-- what a tag declares for a prefix
abbrev pub value_here : List ℕ → Option Tag → Option (List ℕ)
value_here prefix tag = option_and_then (λ t. declared_value prefix t.attributes) tag

with_tag : (prefix : List ℕ) (outer : List Tag) (node : Node) → declared_space prefix (with_tag_of node outer) ≡ value_or (value_here prefix (tag_of_node node)) (declared_space prefix outer)
with_tag prefix outer (Element name attributes nodes) = refl
with_tag prefix outer (Text cs) = refl
with_tag prefix outer (Comment cs) = refl
with_tag prefix outer (Instruction target content) = refl

outward : (doc : Doc) (node : NodeId) (prefix : List ℕ) → Has doc node
    → declared_space prefix (scope_of doc node) ≡ value_or (value_here prefix (tag_of doc node)) (declared_space prefix (tags_at (document_in doc) (outer_path (path_in doc node))))
outward doc node prefix has = by_node (node_in doc node) refl (node_there doc node has)
  where
    by_node : (found : Option Node) → node_in doc node ≡ found → is_some found ≡ true
        → declared_space prefix (scope_of doc node)
        ≡ value_or (value_here prefix (option_and_then tag_of_node (node_in doc node))) (declared_space prefix (tags_at (document_in doc) (outer_path (path_in doc node))))
    by_node None e s = cc
    by_node (Some n) e s =
        ap (declared_space prefix) (outward_tags (document_in doc) (path_in doc node) n e) ∙ with_tag prefix (tags_at (document_in doc) (outer_path (path_in doc node))) n
        ∙ ap (λ o. value_or (value_here prefix (option_and_then tag_of_node o)) (declared_space prefix (tags_at (document_in doc) (outer_path (path_in doc node))))) (sym e)

around_from : (doc : Doc) (node : NodeId) (parent : Option NodeId) → IfSome parent (λ p. Has doc p × (path_in doc p ≡ outer_path (path_in doc node)))
    → IfNone parent (outer_path (path_in doc node) ≡ []) → tags_at (document_in doc) (outer_path (path_in doc node)) ≡ scope_from doc parent
around_from doc node None some none = ap (tags_at (document_in doc)) none
around_from doc node (Some p) some none = ap (tags_at (document_in doc)) (sym some.1)

-- the value that a node declares, or else that of its parent
pub declared_outward : (doc : Doc) (node : NodeId) (prefix : List ℕ) (parent : Option NodeId) → Has doc node → IfSome parent (λ p. Has doc p × (path_in doc p ≡ outer_path (path_in doc node)))
    → IfNone parent (outer_path (path_in doc node) ≡ []) → None ≡ value_here prefix (tag_of doc node) → declared_space prefix (scope_of doc node) ≡ declared_space prefix (scope_from doc parent)
declared_outward doc node prefix parent has some none e =
    outward doc node prefix has ∙ ap (λ o. value_or o (declared_space prefix (tags_at (document_in doc) (outer_path (path_in doc node))))) (sym e)
    ∙ ap (declared_space prefix) (around_from doc node parent some none)

pub declared_at : (doc : Doc) (node : NodeId) (prefix value : List ℕ) → Has doc node → Some value ≡ value_here prefix (tag_of doc node) → value ≡ declared_space prefix (scope_of doc node)
declared_at doc node prefix value has e =
    sym (outward doc node prefix has ∙ ap (λ o. value_or o (declared_space prefix (tags_at (document_in doc) (outer_path (path_in doc node))))) (sym e))

pub has_parent : (doc : Doc) (node : NodeId) (parent : Option NodeId) → IfSome parent (λ p. Has doc p × (path_in doc p ≡ outer_path (path_in doc node))) → IfSome parent (Has doc)
has_parent doc node None some = tt
has_parent doc node (Some p) some = some.0

-- how many steps are left
abbrev pub steps_from : Doc → Option NodeId → ℕ
steps_from doc None = 0
steps_from doc (Some node) = suc (length (path_in doc node))

pub fewer_steps : (doc : Doc) (node : NodeId) (parent : Option NodeId) → Has doc node → IfSome parent (λ p. Has doc p × (path_in doc p ≡ outer_path (path_in doc node)))
    → steps_from doc parent < steps_from doc (Some node)
fewer_steps doc node None has some = omega arith
fewer_steps doc node (Some p) has some = let h = parent_nearer doc node p has some.1 in omega (arith, h)

-- Names.

turned : (a b : List ℕ) → bytes_eq a b ≡ bytes_eq b a
turned a b = iff_same (bytes_eq a b) b a (λ e. sym (same_text a b (sym e))) (λ e. same_from a b (sym e))

swapped : (a b : Bool) → (a && b) ≡ (b && a)
swapped true true = refl
swapped true false = refl
swapped false true = refl
swapped false false = refl

-- two tests, the local part first, say whether two names are the same
pub same_by_parts : (name other : Expanded) → (bytes_eq name.local other.local && bytes_eq other.space name.space) ≡ same_expanded name other
same_by_parts name other = ap (λ b. bytes_eq name.local other.local && b) (turned other.space name.space) ∙ swapped (bytes_eq name.local other.local) (bytes_eq name.space other.space)

own_scope : (doc : Doc) (node : NodeId) (tag : Tag) → (e : IsElementOf (node_in doc node) tag) → scope_of doc node ≡ tag ∷ elements_around (document_in doc) (path_in doc node)
own_scope doc node tag e = own_tag (document_in doc) (path_in doc node) _ e.is

pub named_of : (doc : Doc) (node : NodeId) (tag : Tag) (name : Expanded) → Some tag ≡ tag_of doc node → same_expanded name (element_name (scope_of doc node) tag.name) ≡ named_at doc node name
named_of doc node tag name e =
    let element = element_of (node_in doc node) tag e in
    ap (λ tags. same_expanded name (element_name tags tag.name)) (own_scope doc node tag element)
    ∙ sym (ap (λ o. option_map_or (is_named (elements_around (document_in doc) (path_in doc node)) name) o false) element.is)

pub attribute_of : (doc : Doc) (node : NodeId) (tag : Tag) (name : Expanded) → Some tag ≡ tag_of doc node → value_among (scope_of doc node) name tag.attributes ≡ attribute_at doc node name
attribute_of doc node tag name e =
    let element = element_of (node_in doc node) tag e in
    ap (λ tags. value_among tags name tag.attributes) (own_scope doc node tag element)
    ∙ sym (ap (λ o. option_and_then (attribute_value (elements_around (document_in doc) (path_in doc node)) name) o) element.is)
