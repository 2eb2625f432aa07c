-- The tree of a document: Canonical XML 1.0, "Data Model"; XPath 1.0, "Data Model", without its attribute and namespace nodes, which
-- go with their element here.
use Rattle.std.specs.Prelude.{◌≡◌, ℕ, zero, suc, pred, List, [], ◌∷◌, ◌++◌, Option, Some, None, option_and_then}
use Rattle.std.specs.Option.{option_map_or}
use Rattle.document_model.specs.Names.{Name}
use Rattle.document_model.specs.Items.{Attribute, Item, declaration, start_tag, empty_tag, end_tag, character, reference, cdata, comment, instruction}

infixr 45 ◌⨾◌
mutual
  -- a node with what is below it. Attributes stand in document order, with the declarations
  pub data Node : Type 0 where
    Element : Name → List Attribute → Nodes → Node
    Text : List ℕ → Node
    Comment : List ℕ → Node
    Instruction : (target content : List ℕ) → Node

  -- nodes one after another: what an element holds, or a document
  pub data Nodes : Type 0 where
    no_nodes : Nodes
    ◌⨾◌ : Node → Nodes → Nodes

-- A node is named by its path: from the document down, which of the nodes there is next, counted from 0. The empty path names the
-- document, which is no node.

abbrev pub Path : Type 0
Path = List ℕ

abbrev pub nth : ℕ → Nodes → Option Node
nth k no_nodes = None
nth zero (node ⨾ nodes) = Some node
nth (suc k) (node ⨾ nodes) = nth k nodes

abbrev pub below : Node → Nodes
below (Element name attributes nodes) = nodes
below (Text cs) = no_nodes
below (Comment cs) = no_nodes
below (Instruction target content) = no_nodes

-- the node that a path leads to from a node, itself for the empty path
abbrev pub descend : Path → Node → Option Node
descend [] node = Some node
descend (k ∷ path) node = option_and_then (descend path) (nth k (below node))

-- the node that a path names in a document
abbrev pub node_at : Nodes → Path → Option Node
node_at document [] = None
node_at document (k ∷ path) = option_and_then (descend path) (nth k document)

abbrev pub IsElement : Node → Type 0
IsElement (Element name attributes nodes) = Unit {0}
IsElement (Text cs) = ⊥
IsElement (Comment cs) = ⊥
IsElement (Instruction target content) = ⊥

-- the path names an element
abbrev pub IsElementAt : Nodes → Path → Type 0
IsElementAt document path = (node : Node) × (node_at document path ≡ Some node) × IsElement node

-- Content that is put in

-- nodes with others behind them: a text node at the front of those joins a text node that is the last of these
abbrev pub joined : Nodes → Nodes → Nodes
joined no_nodes added = added
joined (Text cs ⨾ no_nodes) (Text ds ⨾ added) = Text (cs ++ ds) ⨾ added
joined (node ⨾ nodes) added = node ⨾ joined nodes added

-- an element with what it holds changed; another node stays
abbrev pub in_nodes_of : (Nodes → Nodes) → Node → Node
in_nodes_of change (Element name attributes nodes) = Element name attributes (change nodes)
in_nodes_of change (Text cs) = Text cs
in_nodes_of change (Comment cs) = Comment cs
in_nodes_of change (Instruction target content) = Instruction target content

-- the k-th node changed
abbrev pub in_nth : ℕ → (Node → Node) → Nodes → Nodes
in_nth k change no_nodes = no_nodes
in_nth zero change (node ⨾ nodes) = change node ⨾ nodes
in_nth (suc k) change (node ⨾ nodes) = node ⨾ in_nth k change nodes

-- a node with added nodes as the last children of the element that a path leads to
abbrev pub with_last : Nodes → Path → Node → Node
with_last added [] = in_nodes_of (λ nodes. joined nodes added)
with_last added (k ∷ path) = in_nodes_of (in_nth k (with_last added path))

-- a document with added nodes as the last children of the element that a path names, or last in the document
abbrev pub put_last : Nodes → Path → Nodes → Nodes
put_last added [] document = joined document added
put_last added (k ∷ path) document = in_nth k (with_last added path) document

-- The tree of items grows at its innermost open element, which is the last node there is at each depth.

abbrev pub in_last : (Node → Node) → Nodes → Nodes
in_last change no_nodes = no_nodes
in_last change (node ⨾ no_nodes) = change node ⨾ no_nodes
in_last change (node ⨾ next ⨾ nodes) = node ⨾ in_last change (next ⨾ nodes)

-- nodes with added ones as the last children of the element that is open at a depth, or last among them at depth 0
abbrev pub grown : ℕ → Nodes → Nodes → Nodes
grown zero added nodes = joined nodes added
grown (suc d) added nodes = in_last (in_nodes_of (grown d added)) nodes

-- What items, the last one first, add and how many elements they leave open.

abbrev pub depth : List Item → ℕ
depth [] = 0
depth (start_tag name attributes ∷ before) = suc (depth before)
depth (end_tag name ∷ before) = pred (depth before)
depth (item ∷ before) = depth before

-- an empty run of characters is no node
abbrev pub text_added : List ℕ → Nodes
text_added [] = no_nodes
text_added (c ∷ cs) = Text (c ∷ cs) ⨾ no_nodes

-- what an item adds in an element
abbrev pub added_by : Item → Nodes
added_by declaration = no_nodes
added_by (start_tag name attributes) = Element name attributes no_nodes ⨾ no_nodes
added_by (empty_tag name attributes) = Element name attributes no_nodes ⨾ no_nodes
added_by (end_tag name) = no_nodes
added_by (character c) = text_added (c ∷ [])
added_by (reference c) = text_added (c ∷ [])
added_by (cdata cs) = text_added cs
added_by (comment cs) = Comment cs ⨾ no_nodes
added_by (instruction target content) = Instruction target content ⨾ no_nodes

-- and outside the document element, where a character is no node
abbrev pub added_outside : Item → Nodes
added_outside (character c) = no_nodes
added_outside item = added_by item

abbrev pub added_at : ℕ → Item → Nodes
added_at zero item = added_outside item
added_at (suc d) item = added_by item

-- the tree of items, the last one first
abbrev pub tree_after : List Item → Nodes
tree_after [] = no_nodes
tree_after (item ∷ before) = grown (depth before) (added_at (depth before) item) (tree_after before)

-- the nodes of items that stand inside an element
abbrev pub content_after : List Item → Nodes
content_after [] = no_nodes
content_after (item ∷ before) = grown (depth before) (added_by item) (content_after before)

-- the path of the last node at a depth, which is 1 for the last node of all
abbrev pub last_of : Nodes → Option Node
last_of no_nodes = None
last_of (node ⨾ no_nodes) = Some node
last_of (node ⨾ next ⨾ nodes) = last_of (next ⨾ nodes)

abbrev pub count : Nodes → ℕ
count no_nodes = 0
count (node ⨾ nodes) = suc (count nodes)

abbrev pub last_path : ℕ → Nodes → Path
last_path zero nodes = []
last_path (suc d) nodes = pred (count nodes) ∷ option_map_or (λ node. last_path d (below node)) (last_of nodes) []
