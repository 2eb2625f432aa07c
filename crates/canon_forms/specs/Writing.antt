-- What is written of the nodes of a document, one after another: Canonical XML 1.0, "Processing Model".
use Rattle.std.specs.Prelude.{◌≡◌, ℕ, suc, Bool, true, false, ◌||◌, if◌then◌else◌, List, [], ◌∷◌, ◌++◌, flat_map, codes}
use Rattle.document_model.specs.Tree.{Node, Nodes, Path, Element, Text, Comment, Instruction, no_nodes, ◌⨾◌}
use Rattle.document_model.specs.Scopes.{Tag}
use Rattle.document_model.specs.NodeSets.{NodeSet, is_within, is_removed, kept_node}
use Rattle.document_model.specs.Canonical.{Rule, at_apex, node_text, text_character, comment_text, instruction_text}

-- Which nodes are written. The test of a node is given the elements around it, which no set asks for here.
abbrev pub Test : Type 0
Test = List Tag → Path → Node → Bool

-- a place at or below the apex of a set, and not in the subtree that is left out
pub record IsReached (set : NodeSet) (path : Path) : Type 0 where
  pub within : is_within set.apex path ≡ true
  pub left : is_removed set.removed path ≡ false

-- whether a path names the document, or a node that no element holds
abbrev pub is_at_top : Path → Bool
is_at_top [] = true
is_at_top (k ∷ []) = true
is_at_top (k ∷ j ∷ path) = false

-- Nodes that no element holds.

abbrev pub is_element : Node → Bool
is_element (Element name attributes nodes) = true
is_element (Text cs) = false
is_element (Comment cs) = false
is_element (Instruction target content) = false

-- a text with the line end that parts it from the document element, behind which it stands or not
abbrev pub line_of : Bool → List ℕ → List ℕ
line_of behind text = if behind then codes "\n" ++ text else text ++ codes "\n"

abbrev pub top_text : Rule → Bool → Node → List ℕ
top_text rule behind node =
    if is_element node then node_text rule (at_apex []) node else line_of behind (node_text rule (at_apex []) node)

-- the text of a node with what of it passes the test, and none where it fails itself
abbrev pub held_top_text : Rule → Test → Bool → Path → Node → List ℕ
held_top_text rule test behind path node = if test [] path node then top_text rule behind (kept_node test [] path node) else []

-- the text of the nodes of a document from the k-th on, where its element has come or not
abbrev pub lines_text : Rule → Test → Bool → ℕ → Nodes → List ℕ
lines_text rule test behind k no_nodes = []
lines_text rule test behind k (node ⨾ nodes) =
    held_top_text rule test behind (k ∷ []) node ++ lines_text rule test (behind || is_element node) (suc k) nodes

-- An apex, with the elements around it.

abbrev pub apex_text : Rule → Test → List Tag → Path → Node → List ℕ
apex_text rule test outer path node = if test [] path node then node_text rule (at_apex outer) (kept_node test [] path node) else []

-- A node that isn't an element.

abbrev pub leaf_text : Node → List ℕ
leaf_text (Element name attributes nodes) = []
leaf_text (Text cs) = flat_map text_character cs
leaf_text (Comment cs) = comment_text cs
leaf_text (Instruction target content) = instruction_text target content
