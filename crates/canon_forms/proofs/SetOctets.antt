-- What is written of a set is its canonical text.
use Rattle.std.proofs.Common.{◌≡◌, ℕ, Bool, true, false, cond, List, [], ◌++◌, refl, sym, ◌∙◌, ap, codes}
use Rattle.std.proofs.Math.Utf8.{encode, encodes}
use Rattle.std.proofs.lemmas.Str.{encodes-append}
use Rattle.document_model.specs.Tree.{Node, Path, Element, Text, Comment, Instruction, node_at}
use Rattle.document_model.specs.Scopes.{elements_around}
use Rattle.document_model.specs.NodeSets.{NodeSet, has_in, kept_node}
use Rattle.document_model.specs.Canonical.{Form, Around, at_apex, node_text, in_form, octets_of}
use Rattle.doc_spans.specs.declared.documents.Doc.{Doc}
use Rattle.doc_spans.specs.declared.documents.NodeId.{NodeId}
use Rattle.doc_spans.specs.Seen.{Has, document_in, path_in}
use Rattle.canon_methods.specs.Rules.{rule_in}
use Rattle.canon_forms.specs.declared.walks.Walk.{Walk}
use Rattle.canon_forms.specs.Writing.{Test, is_at_top, is_element, line_of, held_top_text, lines_text, apex_text}
use Rattle.canon_forms.specs.Walks.{doc_of, held_in, test_in, holds, element_in, written_in, written_top, written_apex}
use Rattle.canon_forms.proofs.SetTexts.{top_lines, deep_text}
use Rattle.canon_forms.proofs.Walked.{there, of_there}

-- a walk of a set of a document by a form
pub record IsWalk (walk : Walk) (form : Form) (set : NodeSet) (doc : Doc) : Type 0 where
  pub doc_is : doc_of walk ≡ doc
  pub held_is : held_in walk ≡ in_form form set
  pub rule_is : rule_in walk.rule ≡ form.rule

pub lines_octets : (walk : Walk) (form : Form) (set : NodeSet) (doc : Doc) → IsWalk walk form set doc → is_at_top (held_in walk).apex ≡ true
    → encodes (lines_text (rule_in walk.rule) (test_in walk) false 0 (document_in (doc_of walk))) ≡ octets_of form set (document_in doc)
lines_octets walk form set doc w t =
    (λ i. encodes (lines_text (w.rule_is i) (has_in (w.held_is i)) false 0 (document_in (w.doc_is i))))
    ∙ ap encodes (sym (top_lines form set (document_in doc) (ap (λ s. is_at_top s.apex) (sym w.held_is) ∙ t)))

pub apex_octets : (walk : Walk) (form : Form) (set : NodeSet) (doc : Doc) (apex : NodeId) → IsWalk walk form set doc → Has (doc_of walk) apex
    → path_in (doc_of walk) apex ≡ (held_in walk).apex → is_at_top (held_in walk).apex ≡ false → written_apex walk apex ≡ octets_of form set (document_in doc)
apex_octets walk form set doc apex w h p t =
    let at : path_in (doc_of walk) apex ≡ set.apex = p ∙ ap (λ s. s.apex) w.held_is in
    let n = there (doc_of walk) apex h in
    let document = document_in (doc_of walk) in
    ap encodes
    (of_there (apex_text (rule_in walk.rule) (test_in walk) (elements_around document (path_in (doc_of walk) apex)) (path_in (doc_of walk) apex)) [] (doc_of walk) apex n
    ∙ (λ i. apex_text (w.rule_is i) (has_in (w.held_is i)) (elements_around document (at i)) (at i) n.found)
    ∙ sym (deep_text form set document n.found (ap (λ s. is_at_top s.apex) (sym w.held_is) ∙ t) (ap (λ s. s.signatures) (sym w.held_is)) (ap (λ path. node_at document path) (sym at) ∙ n.is)))
    ∙ ap (λ d. octets_of form set (document_in d)) w.doc_is

-- One line.

line_end : encodes (codes "\n") ≡ codes "\n"
unfolding encode
line_end = refl

line_bytes : (b : Bool) (text : List ℕ) → line_of b (encodes text) ≡ encodes (line_of b text)
line_bytes true text = sym (encodes-append (codes "\n") text ∙ ap (λ x. x ++ encodes text) line_end)
line_bytes false text = sym (encodes-append text (codes "\n") ∙ ap (λ x. encodes text ++ x) line_end)

kept_kind : (test : Test) (path : Path) (node : Node) → is_element (kept_node test [] path node) ≡ is_element node
kept_kind test path (Element name attributes nodes) = refl
kept_kind test path (Text cs) = refl
kept_kind test path (Comment cs) = refl
kept_kind test path (Instruction target content) = refl

pub line_is_top : (walk : Walk) (behind : Bool) (around : Around) (node : NodeId) → Has (doc_of walk) node → around ≡ at_apex [] → holds walk node ≡ true → element_in (doc_of walk) node ≡ false
    → line_of behind (written_in walk around node) ≡ written_top walk behind node
line_is_top walk behind around node h a held e =
    let n = there (doc_of walk) node h in
    let path = path_in (doc_of walk) node in
    let test = test_in walk in
    let text : Around → Node → List ℕ = λ a node. node_text (rule_in walk.rule) a (kept_node test [] path node) in
    let passes : test [] path n.found ≡ true = sym (of_there (test [] path) false (doc_of walk) node n) ∙ held in
    let other : is_element (kept_node test [] path n.found) ≡ false = kept_kind test path n.found ∙ sym (of_there is_element false (doc_of walk) node n) ∙ e in
    ap (λ x. line_of behind (encodes x)) (of_there (text around) [] (doc_of walk) node n ∙ ap (λ a. text a n.found) a)
    ∙ line_bytes behind (text (at_apex []) n.found)
    ∙ (λ i. encodes (cond (sym passes i) (cond (sym other i) (text (at_apex []) n.found) (line_of behind (text (at_apex []) n.found))) []))
    ∙ ap encodes (sym (of_there (held_top_text (rule_in walk.rule) test behind path) [] (doc_of walk) node n))

-- written behind nothing
pub from_nothing : (start written out octets : List ℕ) → start ≡ [] → out ≡ start ++ written → written ≡ octets → out ≡ octets
from_nothing start written out octets s o w = o ∙ ap (λ x. x ++ written) s ∙ w
