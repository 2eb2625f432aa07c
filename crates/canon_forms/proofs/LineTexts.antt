-- Nodes outside the document element: the text by how many of the kept nodes stand before it is the text node by node.
use Rattle.std.proofs.Common.{◌≡◌, ℕ, suc, Bool, true, false, cond, ◌||◌, [], ◌∷◌, ◌++◌, refl, ◌∙◌, ap}
use Rattle.document_model.specs.Tree.{Node, Nodes, Element, Text, Comment, Instruction, no_nodes, ◌⨾◌, count}
use Rattle.document_model.specs.NodeSets.{kept, kept_node}
use Rattle.document_model.specs.Canonical.{Rule, before_element, outside_text}
use Rattle.canon_forms.specs.Writing.{Test, is_element, top_text, held_top_text, lines_text}

-- one node of which the kept one stands in front, if the test holds
behind_one : (rule : Rule) (t : Bool) (node : Node) (rest : Nodes) → outside_text rule 0 (cond t (node ⨾ rest) rest) ≡ cond t (top_text rule true node) [] ++ outside_text rule 0 rest
behind_one rule true (Element name attributes inner) rest = refl
behind_one rule true (Text cs) rest = refl
behind_one rule true (Comment cs) rest = refl
behind_one rule true (Instruction target content) rest = refl
behind_one rule false node rest = refl

front_one : (rule : Rule) (t : Bool) (node : Node) (before rest : Nodes) → is_element node ≡ false
    → outside_text rule (count (cond t (node ⨾ before) before)) (cond t (node ⨾ rest) rest) ≡ cond t (top_text rule false node) [] ++ outside_text rule (count before) rest
front_one rule true (Element name attributes inner) before rest e = cc
front_one rule true (Text cs) before rest e = refl
front_one rule true (Comment cs) before rest e = refl
front_one rule true (Instruction target content) before rest e = refl
front_one rule false node before rest e = refl

or_true : (b : Bool) → (b || true) ≡ true
or_true true = refl
or_true false = refl

behind_lines : (rule : Rule) (test : Test) (k : ℕ) (nodes : Nodes) → outside_text rule 0 (kept test [] [] k nodes) ≡ lines_text rule test true k nodes
behind_lines rule test k no_nodes = refl
behind_lines rule test k (node ⨾ nodes) =
    behind_one rule (test [] (k ∷ []) node) (kept_node test [] (k ∷ []) node) (kept test [] [] (suc k) nodes)
    ∙ ap (λ x. held_top_text rule test true (k ∷ []) node ++ x) (behind_lines rule test (suc k) nodes)

-- the document element stands alike before and behind
either_side : (rule : Rule) (t : Bool) (node : Node) → is_element node ≡ true → cond t (top_text rule true node) [] ≡ cond t (top_text rule false node) []
either_side rule t (Element name attributes inner) e = refl
either_side rule t (Text cs) e = cc
either_side rule t (Comment cs) e = cc
either_side rule t (Instruction target content) e = cc

-- the text of the kept nodes of a document
pub outside_lines : (rule : Rule) (test : Test) (k : ℕ) (nodes : Nodes)
    → outside_text rule (count (kept test [] [] k (before_element nodes))) (kept test [] [] k nodes) ≡ lines_text rule test false k nodes
outside_lines rule test k no_nodes = refl
outside_lines rule test k (Element name attributes inner ⨾ nodes) =
    let node : Node = Element name attributes inner in
    behind_one rule (test [] (k ∷ []) node) (kept_node test [] (k ∷ []) node) (kept test [] [] (suc k) nodes)
    ∙ (λ i. either_side rule (test [] (k ∷ []) node) (kept_node test [] (k ∷ []) node) refl i ++ behind_lines rule test (suc k) nodes i)
outside_lines rule test k (Text cs ⨾ nodes) =
    front_one rule (test [] (k ∷ []) (Text cs)) (Text cs) (kept test [] [] (suc k) (before_element nodes)) (kept test [] [] (suc k) nodes) refl
    ∙ ap (λ x. held_top_text rule test false (k ∷ []) (Text cs) ++ x) (outside_lines rule test (suc k) nodes)
outside_lines rule test k (Comment cs ⨾ nodes) =
    front_one rule (test [] (k ∷ []) (Comment cs)) (Comment cs) (kept test [] [] (suc k) (before_element nodes)) (kept test [] [] (suc k) nodes) refl
    ∙ ap (λ x. held_top_text rule test false (k ∷ []) (Comment cs) ++ x) (outside_lines rule test (suc k) nodes)
outside_lines rule test k (Instruction target content ⨾ nodes) =
    front_one rule (test [] (k ∷ []) (Instruction target content)) (Instruction target content) (kept test [] [] (suc k) (before_element nodes)) (kept test [] [] (suc k) nodes) refl
    ∙ ap (λ x. held_top_text rule test false (k ∷ []) (Instruction target content) ++ x) (outside_lines rule test (suc k) nodes)
