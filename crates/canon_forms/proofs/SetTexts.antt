-- The text of a set, by where its apex stands.
use Rattle.std.proofs.Common.{◌≡◌, ℕ, Bool, true, false, cond, List, [], ◌∷◌, Some, refl, ◌∙◌, ap}
use Rattle.std.proofs.lemmas.List.{append-nil}
use Rattle.std.specs.Option.{option_map_or}
use Rattle.document_model.specs.Tree.{Node, Nodes, Path, no_nodes, ◌⨾◌, node_at, count}
use Rattle.document_model.specs.Scopes.{Tag, elements_around}
use Rattle.document_model.specs.NodeSets.{NodeSet, has_in, kept, kept_node, apex_alone, part_from, part}
use Rattle.document_model.specs.Canonical.{Rule, Form, at_apex, node_text, nodes_text, before_element, outside_text, part_text, in_form, text_of}
use Rattle.canon_forms.specs.Writing.{Test, lines_text, is_at_top, apex_text}
use Rattle.canon_forms.proofs.HeldNodes.{around_any, node_any}
use Rattle.canon_forms.proofs.LineTexts.{outside_lines}
use Rattle.canon_forms.proofs.Parts.{part_of_top}

top_kept : (set : NodeSet) (apex : Path) (document : Nodes) → set.apex ≡ apex → is_at_top apex ≡ true → part set document ≡ kept (has_in set) [] [] 0 document
top_kept set [] document e t = ap (λ apex. part_from (has_in set) apex document) e
top_kept set (k ∷ []) document e t = part_of_top set k document e
top_kept set (k ∷ j ∷ apex) document e t = cc

top_part : (rule : Rule) (apex : Path) (outer : List Tag) (n : ℕ) (nodes : Nodes) → is_at_top apex ≡ true → part_text rule apex outer n nodes ≡ outside_text rule n nodes
top_part rule [] outer n nodes t = refl
top_part rule (k ∷ []) outer n nodes t = refl
top_part rule (k ∷ j ∷ apex) outer n nodes t = cc

-- the whole document, or a node that the document holds
pub top_lines : (form : Form) (set : NodeSet) (document : Nodes) → is_at_top set.apex ≡ true → text_of form set document ≡ lines_text form.rule (has_in (in_form form set)) false 0 document
unfolding text_of
top_lines form set document t =
    let held = in_form form set in
    top_part form.rule set.apex (elements_around document set.apex) (count (part held (before_element document))) (part held document) t
    ∙ (λ i. outside_text form.rule (count (top_kept held set.apex (before_element document) refl t i)) (top_kept held set.apex document refl t i))
    ∙ outside_lines form.rule (has_in held) 0 document

deep_part : (rule : Rule) (apex : Path) (outer : List Tag) (n : ℕ) (nodes : Nodes) → is_at_top apex ≡ false → part_text rule apex outer n nodes ≡ nodes_text rule (at_apex outer) nodes
deep_part rule [] outer n nodes t = cc
deep_part rule (k ∷ []) outer n nodes t = cc
deep_part rule (k ∷ j ∷ apex) outer n nodes t = refl

deep_kept : (test : Test) (apex : Path) (document : Nodes) → is_at_top apex ≡ false
    → part_from test apex document ≡ option_map_or (apex_alone test (elements_around document apex) apex) (node_at document apex) no_nodes
deep_kept test [] document t = cc
deep_kept test (k ∷ []) document t = cc
deep_kept test (k ∷ j ∷ apex) document t = refl

if_kept : (rule : Rule) (outer : List Tag) (b : Bool) (node : Node) → nodes_text rule (at_apex outer) (cond b (node ⨾ no_nodes) no_nodes) ≡ cond b (node_text rule (at_apex outer) node) []
if_kept rule outer true node = append-nil (node_text rule (at_apex outer) node)
if_kept rule outer false node = refl

-- a node that an element holds
pub deep_text : (form : Form) (set : NodeSet) (document : Nodes) (node : Node) → is_at_top set.apex ≡ false → set.signatures ≡ true → node_at document set.apex ≡ Some node
    → text_of form set document ≡ apex_text form.rule (has_in (in_form form set)) (elements_around document set.apex) set.apex node
unfolding text_of
deep_text form set document node t s at =
    let held = in_form form set in
    let outer = elements_around document set.apex in
    deep_part form.rule set.apex outer (count (part held (before_element document))) (part held document) t
    ∙ ap (nodes_text form.rule (at_apex outer))
    (deep_kept (has_in held) set.apex document t ∙ ap (λ o. option_map_or (apex_alone (has_in held) outer set.apex) o no_nodes) at)
    ∙ if_kept form.rule outer (has_in held outer set.apex node) (kept_node (has_in held) outer set.apex node)
    ∙ (λ i. cond (around_any held outer [] set.apex node s i) (node_text form.rule (at_apex outer) (node_any held outer [] set.apex node s i)) [])
