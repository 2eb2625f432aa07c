-- What is written of the children of a node, one after another.
use Rattle.std.proofs.Common.{◌≡◌, ℕ, suc, Bool, true, false, cond, ◌||◌, List, [], ◌∷◌, ◌++◌, refl, sym, ◌∙◌, ap, append_assoc}
use Rattle.std.proofs.Math.Utf8.{encodes}
use Rattle.std.proofs.lemmas.Str.{encodes-append}
use Rattle.std.specs.Option.{option_map_or}
use Rattle.document_model.specs.Tree.{Node, Nodes, Path, ◌⨾◌}
use Rattle.document_model.specs.NodeSets.{kept, kept_node}
use Rattle.document_model.specs.Canonical.{Rule, Around, node_text, nodes_text}
use Rattle.doc_spans.specs.declared.documents.Doc.{Doc}
use Rattle.doc_spans.specs.declared.documents.NodeId.{NodeId}
use Rattle.doc_spans.specs.Below.{nodes_from}
use Rattle.doc_spans.specs.Seen.{NameBelow, node_in, nodes_at, path_in, document_in}
use Rattle.doc_spans.proofs.ChildSteps.{NextChild, no_child_left}
use Rattle.canon_methods.specs.Rules.{rule_in}
use Rattle.canon_forms.specs.declared.walks.Walk.{Walk}
use Rattle.canon_forms.proofs.HeldNodes.{held_is_reached}
use Rattle.canon_forms.specs.Writing.{IsReached, is_element, held_top_text, lines_text}
use Rattle.canon_forms.specs.Walks.{doc_of, held_in, test_in, holds, element_in, written_in, written_top}

-- What is said of the next child is said of the node there.
pub of_next : {A : Type 0} (f : Path → Node → A) (default : A) (doc : Doc) (path : Path) (i : ℕ) (child : NodeId) (behind : List ℕ) → (n : NextChild doc path i child.0 behind)
    → option_map_or (f (path_in doc child)) (node_in doc child) default ≡ f (path ++ i ∷ []) n.node
of_next f default doc path i child behind n =
    ap (λ o. option_map_or (f (path_in doc child)) o default) n.named ∙ ap (λ p. f p n.node) n.at

-- Children in an element.

-- the octets of the children of a path from the i-th on
abbrev pub left_in : Walk → Around → Path → ℕ → List ℕ
left_in walk around path i =
    encodes (nodes_text (rule_in walk.rule) around (kept (test_in walk) [] path i (nodes_from i (nodes_at (document_in (doc_of walk)) path))))

one_left : (rule : Rule) (around : Around) (b : Bool) (node : Node) (nodes : Nodes)
    → encodes (nodes_text rule around (cond b (node ⨾ nodes) nodes)) ≡ cond b (encodes (node_text rule around node)) [] ++ encodes (nodes_text rule around nodes)
one_left rule around true node nodes = encodes-append (node_text rule around node) (nodes_text rule around nodes)
one_left rule around false node nodes = refl

left_step : (walk : Walk) (around : Around) (path : Path) (i : ℕ) (child : NodeId) (behind : List ℕ) → (n : NextChild (doc_of walk) path i child.0 behind)
    → left_in walk around path i ≡ cond (test_in walk [] (path ++ i ∷ []) n.node) (encodes (node_text (rule_in walk.rule) around (kept_node (test_in walk) [] (path ++ i ∷ []) n.node))) [] ++ left_in walk around path (suc i)
left_step walk around path i child behind n =
    ap (λ nodes. encodes (nodes_text (rule_in walk.rule) around (kept (test_in walk) [] path i nodes))) n.here
    ∙ one_left (rule_in walk.rule) around (test_in walk [] (path ++ i ∷ []) n.node) (kept_node (test_in walk) [] (path ++ i ∷ []) n.node)
    (kept (test_in walk) [] path (suc i) (nodes_from (suc i) (nodes_at (document_in (doc_of walk)) path)))

pub child_written : (walk : Walk) (around : Around) (path : Path) (i : ℕ) (child : NodeId) (behind before now start : List ℕ) → NextChild (doc_of walk) path i child.0 behind → holds walk child ≡ true
    → now ≡ before ++ written_in walk around child → before ++ left_in walk around path i ≡ start → now ++ left_in walk around path (suc i) ≡ start
child_written walk around path i child behind before now start n held w e =
    let rest = left_in walk around path (suc i) in
    let text : Path → Node → List ℕ = λ p node. node_text (rule_in walk.rule) around (kept_node (test_in walk) [] p node) in
    let passes : test_in walk [] (path ++ i ∷ []) n.node ≡ true = sym (of_next (test_in walk []) false (doc_of walk) path i child behind n) ∙ held in
    let one : written_in walk around child ≡ encodes (text (path ++ i ∷ []) n.node) = ap encodes (of_next text [] (doc_of walk) path i child behind n) in
    ap (λ x. x ++ rest) (w ∙ ap (λ x. before ++ x) one)
    ∙ append_assoc before (encodes (text (path ++ i ∷ []) n.node)) rest
    ∙ ap (λ b. before ++ (cond b (encodes (text (path ++ i ∷ []) n.node)) [] ++ rest)) (sym passes)
    ∙ ap (λ x. before ++ x) (sym (left_step walk around path i child behind n))
    ∙ e

pub child_left_out : (walk : Walk) (around : Around) (path : Path) (i : ℕ) (child : NodeId) (behind before start : List ℕ) → NextChild (doc_of walk) path i child.0 behind → holds walk child ≡ false
    → before ++ left_in walk around path i ≡ start → before ++ left_in walk around path (suc i) ≡ start
child_left_out walk around path i child behind before start n held e =
    let rest = left_in walk around path (suc i) in
    let fails : test_in walk [] (path ++ i ∷ []) n.node ≡ false = sym (of_next (test_in walk []) false (doc_of walk) path i child behind n) ∙ held in
    ap (λ b. before ++ (cond b (encodes (node_text (rule_in walk.rule) around (kept_node (test_in walk) [] (path ++ i ∷ []) n.node))) [] ++ rest)) (sym fails)
    ∙ ap (λ x. before ++ x) (sym (left_step walk around path i child behind n))
    ∙ e

pub none_left : (walk : Walk) (around : Around) (path : Path) (i : ℕ) (numbers : List ℕ) → numbers ≡ [] → NameBelow (doc_of walk) path i numbers → left_in walk around path i ≡ []
none_left walk around path i numbers none h =
    ap (λ nodes. encodes (nodes_text (rule_in walk.rule) around (kept (test_in walk) [] path i nodes))) (no_child_left (doc_of walk) path i numbers none h)

-- Nodes that the document holds.

abbrev pub lines_left : Walk → Bool → ℕ → List ℕ
lines_left walk behind i = encodes (lines_text (rule_in walk.rule) (test_in walk) behind i (nodes_from i (document_in (doc_of walk))))

pub line_written : (walk : Walk) (b : Bool) (i : ℕ) (child : NodeId) (behind before now start : List ℕ) → NextChild (doc_of walk) [] i child.0 behind
    → now ≡ before ++ written_top walk b child → before ++ lines_left walk b i ≡ start → now ++ lines_left walk (b || element_in (doc_of walk) child) (suc i) ≡ start
line_written walk b i child behind before now start n w e =
    let document = document_in (doc_of walk) in
    let rest : Bool → List ℕ = λ b. lines_text (rule_in walk.rule) (test_in walk) b (suc i) (nodes_from (suc i) document) in
    let element : element_in (doc_of walk) child ≡ is_element n.node = of_next (λ p node. is_element node) false (doc_of walk) [] i child behind n in
    let one : written_top walk b child ≡ encodes (held_top_text (rule_in walk.rule) (test_in walk) b (i ∷ []) n.node) =
    ap encodes (of_next (held_top_text (rule_in walk.rule) (test_in walk) b) [] (doc_of walk) [] i child behind n) in
    (λ k. (w ∙ ap (λ x. before ++ x) one) k ++ encodes (rest (b || element k)))
    ∙ append_assoc before (encodes (held_top_text (rule_in walk.rule) (test_in walk) b (i ∷ []) n.node)) (encodes (rest (b || is_element n.node)))
    ∙ ap (λ x. before ++ x) (sym (encodes-append (held_top_text (rule_in walk.rule) (test_in walk) b (i ∷ []) n.node) (rest (b || is_element n.node))))
    ∙ ap (λ nodes. before ++ encodes (lines_text (rule_in walk.rule) (test_in walk) b i nodes)) (sym n.here)
    ∙ e

pub no_line_left : (walk : Walk) (b : Bool) (i : ℕ) (numbers : List ℕ) → numbers ≡ [] → NameBelow (doc_of walk) [] i numbers → lines_left walk b i ≡ []
no_line_left walk b i numbers none h =
    ap (λ nodes. encodes (lines_text (rule_in walk.rule) (test_in walk) b i nodes)) (no_child_left (doc_of walk) [] i numbers none h)

-- A child that the set holds stands at a place that the set reaches.
pub held_child : (walk : Walk) (path : Path) (i : ℕ) (child : NodeId) (behind : List ℕ) → NextChild (doc_of walk) path i child.0 behind → holds walk child ≡ true
    → IsReached (held_in walk) (path_in (doc_of walk) child)
held_child walk path i child behind n held =
    held_is_reached (held_in walk) [] (path_in (doc_of walk) child) n.node (sym (ap (λ o. option_map_or (test_in walk [] (path_in (doc_of walk) child)) o false) n.named) ∙ held)
