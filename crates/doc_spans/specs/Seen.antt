-- What a clause sees of a document: its bytes, the tree that they spell, and which node each number names.
use Rattle.std.specs.Prelude.{◌≡◌, ℕ, ◌-◌, ◌<◌, List, [], ◌∷◌, length, Option, None, Some, slice_get, map, option_and_then}
use Rattle.std.specs.List.{All}
use Rattle.std.specs.Option.{option_map_or}
use Rattle.doc_spans.specs.declared.documents.Doc.{Doc}
use Rattle.doc_spans.specs.declared.documents.NodeId.{NodeId}
use Rattle.document_model.specs.Names.{spelled}
use Rattle.document_model.specs.Items.{Attribute}
use Rattle.document_model.specs.Tree.{Node, Nodes, Path, Element, Text, Comment, Instruction, no_nodes, node_at, below, count}
use Rattle.document_model.specs.Scopes.{Tag}
use Rattle.document_model.specs.Places.{Place}
use Rattle.document_model.specs.Documents.{document_of}
use Rattle.doc_spans.specs.Below.{paths_below}
use Rattle.doc_spans.specs.Shown.{Shown, path_at}

abbrev pub bytes_in : Doc → List ℕ
bytes_in doc = doc.bytes.now

-- the places and kinds of its nodes, one for each number
abbrev pub shown_in : Doc → Shown
shown_in doc = doc.tree.now

-- the tree that its bytes spell
abbrev pub document_in : Doc → Nodes
document_in doc = document_of (bytes_in doc)

-- the number names one of its nodes
abbrev pub Has : Doc → NodeId → Type 0
Has doc node = node.0 < length (shown_in doc).places

abbrev pub path_in : Doc → NodeId → Path
path_in doc node = path_at (shown_in doc) node.0

abbrev pub place_in : Doc → NodeId → Option Place
place_in doc node = slice_get (shown_in doc).places node.0

abbrev pub node_in : Doc → NodeId → Option Node
node_in doc node = node_at (document_in doc) (path_in doc node)

-- the nodes right below a path, where the empty path names the document
abbrev pub nodes_at : Nodes → Path → Nodes
nodes_at document [] = document
nodes_at document (k ∷ path) = option_map_or below (node_at document (k ∷ path)) no_nodes

-- the nodes that a node holds
abbrev pub nodes_in : Doc → NodeId → Nodes
nodes_in doc node = nodes_at (document_in doc) (path_in doc node)

-- the numbers name all nodes right below a path from the i-th on, in their order
pub record NameBelow (doc : Doc) (path : Path) (i : ℕ) (numbers : List ℕ) : Type 0 where
  pub within : All (λ k. k < length (shown_in doc).places) numbers
  pub paths : map (path_at (shown_in doc)) numbers ≡ paths_below path i (count (nodes_at (document_in doc) path) - i)

-- the name of an element as it is written, or the target of a PI
abbrev pub name_of_node : Node → List ℕ
name_of_node (Element name attributes nodes) = spelled name
name_of_node (Text cs) = []
name_of_node (Comment cs) = []
name_of_node (Instruction target content) = target

abbrev pub name_in : Doc → NodeId → List ℕ
name_in doc node = option_map_or name_of_node (node_in doc node) []

-- the characters of a text or a comment, or the content of a PI
abbrev pub text_of_node : Node → List ℕ
text_of_node (Element name attributes nodes) = []
text_of_node (Text cs) = cs
text_of_node (Comment cs) = cs
text_of_node (Instruction target content) = content

abbrev pub text_in : Doc → NodeId → List ℕ
text_in doc node = option_map_or text_of_node (node_in doc node) []

-- the attributes of a node, in document order with the declarations; only an element has some
abbrev pub attributes_of_node : Node → List Attribute
attributes_of_node (Element name attributes nodes) = attributes
attributes_of_node (Text cs) = []
attributes_of_node (Comment cs) = []
attributes_of_node (Instruction target content) = []

abbrev pub attributes_in : Doc → NodeId → List Attribute
attributes_in doc node = option_map_or attributes_of_node (node_in doc node) []

-- the start tag of a node, or its empty tag; only an element has one
abbrev pub tag_of_node : Node → Option Tag
tag_of_node (Element name attributes nodes) = Some (record { name = name; attributes = attributes })
tag_of_node (Text cs) = None
tag_of_node (Comment cs) = None
tag_of_node (Instruction target content) = None

abbrev pub tag_of : Doc → NodeId → Option Tag
tag_of doc node = option_and_then tag_of_node (node_in doc node)
