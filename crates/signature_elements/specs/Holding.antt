-- What a node of a document is among those that an element holds.
use Rattle.std.specs.Prelude.{ℕ, Bool, true, false, not, List, [], ◌∷◌, ◌++◌}
use Rattle.std.specs.List.{list_all}
use Rattle.std.specs.Option.{option_map_or}
use Rattle.document_model.specs.Characters.{is_white}
use Rattle.document_model.specs.Tree.{Node, Nodes, Path, Element, Text, Comment, Instruction, node_at}

-- the characters of a text node, and none of another node
abbrev pub text_of : Node → List ℕ
text_of (Element name attributes nodes) = []
text_of (Text cs) = cs
text_of (Comment cs) = []
text_of (Instruction target content) = []

-- by its path
abbrev pub text_at : Nodes → Path → List ℕ
text_at document path = option_map_or text_of (node_at document path) []

-- and of several, joined
abbrev pub texts_at : Nodes → List Path → List ℕ
texts_at document [] = []
texts_at document (path ∷ paths) = text_at document path ++ texts_at document paths

-- whether the node is text that isn't white space
abbrev pub is_stray_at : Nodes → Path → Bool
is_stray_at document path = not (list_all is_white (text_at document path))

abbrev pub is_text : Node → Bool
is_text (Element name attributes nodes) = false
is_text (Text cs) = true
is_text (Comment cs) = false
is_text (Instruction target content) = false

-- whether the path names a text node
abbrev pub is_text_at : Nodes → Path → Bool
is_text_at document path = option_map_or is_text (node_at document path) false
