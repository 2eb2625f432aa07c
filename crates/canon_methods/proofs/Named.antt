-- The form that a method names.
use Rattle.std.proofs.Common.{◌≡◌, ℕ, suc, Bool, true, false, cond, List, [], ◌++◌, Option, Some, None, refl, sym, ◌∙◌, ap, codes}
use Rattle.std.proofs.lemmas.Str.{chars-IsAscii, chars-nil}
use Rattle.std.specs.Option.{option_map_or}
use Rattle.std.specs.Prelude.{option_and_then}
use Rattle.std.specs.Str.{chars}
use Rattle.document_model.specs.Characters.{◌is◌}
use Rattle.document_model.specs.Names.{Expanded}
use Rattle.document_model.specs.Tree.{Nodes}
use Rattle.document_model.specs.Scopes.{Tag, elements_around, tags_at, is_named, attribute_value}
use Rattle.document_model.specs.Canonical.{Inclusive, Exclusive, Form}
use Rattle.document_model.specs.Methods.{inclusive_name, exclusive_name, form_named, form_of, form_at, prefixes_among, prefixes_of}
use Rattle.xml_items.proofs.AsciiTexts.{ascii_from}
use Rattle.doc_spans.specs.declared.documents.Doc.{Doc}
use Rattle.doc_spans.specs.declared.documents.NodeId.{NodeId}
use Rattle.doc_spans.specs.Below.{nodes_from}
use Rattle.doc_spans.specs.Seen.{Has, NameBelow, document_in, path_in, nodes_in}
use Rattle.doc_spans.specs.Shown.{outer_path}
use Rattle.doc_spans.proofs.ChildSteps.{NextChild, nodes_of_node, no_child_left}
use Rattle.doc_spans.proofs.Outward.{own_tag, tags_around}
use Rattle.doc_spans.proofs.Shows.{outer_more}
use Rattle.node_sets.specs.Scopes.{scope_of, named, named_at, attribute_at}
use Rattle.canon_methods.specs.Listed.{prefixes_listed}
use Rattle.canon_methods.proofs.There.{there}

-- Texts of names.

pub inclusive_text : chars inclusive_name ≡ inclusive_name
inclusive_text = chars-IsAscii inclusive_name (ascii_from inclusive_name refl)

pub inclusive_comments_text : chars (inclusive_name ++ codes "#WithComments") ≡ inclusive_name ++ codes "#WithComments"
inclusive_comments_text = chars-IsAscii (inclusive_name ++ codes "#WithComments") (ascii_from (inclusive_name ++ codes "#WithComments") refl)

pub exclusive_text : chars exclusive_name ≡ exclusive_name
exclusive_text = chars-IsAscii exclusive_name (ascii_from exclusive_name refl)

pub exclusive_comments_text : chars (exclusive_name ++ codes "WithComments") ≡ exclusive_name ++ codes "WithComments"
exclusive_comments_text = chars-IsAscii (exclusive_name ++ codes "WithComments") (ascii_from (exclusive_name ++ codes "WithComments") refl)

abbrev pub algorithm : Expanded
algorithm = record { space = []; local = codes "Algorithm" }

abbrev pub prefix_list : Expanded
prefix_list = record { space = []; local = codes "PrefixList" }

abbrev pub inclusive_namespaces : Expanded
inclusive_namespaces = record { space = exclusive_name; local = codes "InclusiveNamespaces" }

pub algorithm_text : named [] (codes "Algorithm") ≡ algorithm
algorithm_text = (λ i. record { space = chars-nil i; local = chars-IsAscii (codes "Algorithm") (ascii_from (codes "Algorithm") refl) i })

pub prefix_list_text : named [] (codes "PrefixList") ≡ prefix_list
prefix_list_text = (λ i. record { space = chars-nil i; local = chars-IsAscii (codes "PrefixList") (ascii_from (codes "PrefixList") refl) i })

pub inclusive_namespaces_text : named exclusive_name (codes "InclusiveNamespaces") ≡ inclusive_namespaces
inclusive_namespaces_text = (λ i. record { space = exclusive_text i; local = chars-IsAscii (codes "InclusiveNamespaces") (ascii_from (codes "InclusiveNamespaces") refl) i })

-- By which of the four names it is.
abbrev pub chosen : Bool → Bool → Bool → Bool → List (List ℕ) → Option Form
chosen a b c d prefixes =
    cond a (Some (record { rule = Inclusive; comments = false }))
    (cond b (Some (record { rule = Inclusive; comments = true }))
    (cond c (Some (record { rule = Exclusive prefixes; comments = false }))
    (cond d (Some (record { rule = Exclusive prefixes; comments = true }))
    None)))

-- whether the characters are those of a name, of which a text was compared
pub is_that : (cs text : List ℕ) (result b : Bool) → chars text ≡ text → result ≡ (cs is chars text) → result ≡ b → (cs is text) ≡ b
is_that cs text result b t r e = ap (λ x. cs is x) (sym t) ∙ sym r ∙ e

-- The first `InclusiveNamespaces`.

child_around : (doc : Doc) (method child : NodeId) (i : ℕ) (behind : List ℕ) → NextChild doc (path_in doc method) i child.0 behind → elements_around (document_in doc) (path_in doc child) ≡ scope_of doc method
child_around doc method child i behind next =
    tags_around (document_in doc) (path_in doc child) next.node next.named
    ∙ ap (tags_at (document_in doc)) (ap outer_path next.at ∙ outer_more (path_in doc method) i)

-- the prefixes of those from the i-th child on
abbrev pub among_left : Doc → NodeId → ℕ → List (List ℕ)
among_left doc method i = prefixes_among (scope_of doc method) (nodes_from i (nodes_in doc method))

among_step : (doc : Doc) (method child : NodeId) (i : ℕ) (behind : List ℕ) → NextChild doc (path_in doc method) i child.0 behind
    → among_left doc method i ≡ cond (named_at doc child inclusive_namespaces) (prefixes_listed doc child) (among_left doc method (suc i))
among_step doc method child i behind next =
    let around = child_around doc method child i behind next in
    ap (prefixes_among (scope_of doc method)) next.here
    ∙ (λ k. cond (is_named (sym around k) inclusive_namespaces next.node) (option_map_or prefixes_of (attribute_value (sym around k) prefix_list next.node) []) (among_left doc method (suc i)))
    ∙ ap (λ o. cond (option_map_or (is_named (elements_around (document_in doc) (path_in doc child)) inclusive_namespaces) o false)
    (option_map_or prefixes_of (option_and_then (attribute_value (elements_around (document_in doc) (path_in doc child)) prefix_list) o) []) (among_left doc method (suc i))) (sym next.named)

pub listed_here : (doc : Doc) (method child : NodeId) (i : ℕ) (behind : List ℕ) → NextChild doc (path_in doc method) i child.0 behind → named_at doc child inclusive_namespaces ≡ true
    → among_left doc method i ≡ prefixes_listed doc child
listed_here doc method child i behind next e =
    among_step doc method child i behind next ∙ ap (λ b. cond b (prefixes_listed doc child) (among_left doc method (suc i))) e

pub listed_further : (doc : Doc) (method child : NodeId) (i : ℕ) (behind : List ℕ) → NextChild doc (path_in doc method) i child.0 behind → named_at doc child inclusive_namespaces ≡ false
    → among_left doc method i ≡ among_left doc method (suc i)
listed_further doc method child i behind next e =
    among_step doc method child i behind next ∙ ap (λ b. cond b (prefixes_listed doc child) (among_left doc method (suc i))) e

pub listed_nowhere : (doc : Doc) (method : NodeId) (i : ℕ) (numbers : List ℕ) → numbers ≡ [] → NameBelow doc (path_in doc method) i numbers → among_left doc method i ≡ []
listed_nowhere doc method i numbers none h = ap (prefixes_among (scope_of doc method)) (no_child_left doc (path_in doc method) i numbers none h)

-- The form.
pub form_read : (doc : Doc) (method : NodeId) → Has doc method
    → form_at (document_in doc) (path_in doc method) ≡ option_map_or (form_named (prefixes_among (scope_of doc method) (nodes_in doc method))) (attribute_at doc method algorithm) None
form_read doc method h =
    let m = there doc method h in
    let outer = elements_around (document_in doc) (path_in doc method) in
    let answer : List Tag → Nodes → Option (List ℕ) → Option Form = λ tags nodes name. option_map_or (form_named (prefixes_among tags nodes)) name None in
    ap (λ o. option_map_or (form_of outer) o None) m.is
    ∙ (λ i. answer (sym (own_tag (document_in doc) (path_in doc method) m.found m.is) i) (sym (nodes_of_node (document_in doc) (path_in doc method) m.found m.is) i) (attribute_value outer algorithm m.found))
    ∙ ap (λ o. answer (scope_of doc method) (nodes_in doc method) (option_and_then (attribute_value outer algorithm) o)) (sym m.is)
