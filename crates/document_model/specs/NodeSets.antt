-- Node sets and identifiers: XML Signature 1.1, "The Reference Processing Model" and "Same-Document URI-References"; Canonical XML 1.0,
-- "Data Model" and "Document Subsets".
use Rattle.std.specs.Prelude.{ℕ, suc, Bool, true, false, not, ◌&&◌, ◌||◌, ◌==◌, if◌then◌else◌, List, [], ◌∷◌, ◌++◌, Option, Some, None, codes}
use Rattle.std.specs.Option.{option_map_or}
use Rattle.document_model.specs.Characters.{◌is◌, is_empty}
use Rattle.document_model.specs.Names.{Expanded, same_expanded}
use Rattle.document_model.specs.Items.{Attribute}
use Rattle.document_model.specs.Tree.{Node, Nodes, Path, Element, Text, Comment, Instruction, no_nodes, ◌⨾◌, node_at}
use Rattle.document_model.specs.Scopes.{Tag, with_tag_of, element_name, elements_around, tags_at}

-- An apex with what is below it, with or without comments, less at most one subtree, and with or without the subtrees of all elements
-- `Signature` of XML Signature. The empty path is the whole document. Attributes and namespaces go with their element.
pub record NodeSet : Type 0 where
  pub apex : Path
  pub comments : Bool
  pub removed : Option Path
  pub signatures : Bool

abbrev pub subtree : Path → NodeSet
subtree apex = record { apex = apex; comments = true; removed = None; signatures = true }

abbrev pub whole : NodeSet
whole = subtree []

abbrev pub without_comments : NodeSet → NodeSet
without_comments set = record set { comments = false }

abbrev pub without : NodeSet → Path → NodeSet
without set path = record set { removed = Some path }

abbrev pub without_signatures : NodeSet → NodeSet
without_signatures set = record set { signatures = false }

-- whether the second path names the node that the first names, or one below it
abbrev pub is_within : Path → Path → Bool
is_within [] path = true
is_within (k ∷ apex) [] = false
is_within (k ∷ apex) (j ∷ path) = (k == j) && is_within apex path

abbrev pub is_removed : Option Path → Path → Bool
is_removed None path = false
is_removed (Some top) path = is_within top path

abbrev pub is_comment : Node → Bool
is_comment (Comment cs) = true
is_comment node = false

abbrev pub signature_name : Expanded
signature_name = record { space = codes "http://www.w3.org/2000/09/xmldsig#"; local = codes "Signature" }

-- whether one of the elements is a signature; the innermost stands first, so each has those behind it around it
abbrev pub is_in_signature : List Tag → Bool
is_in_signature [] = false
is_in_signature (tag ∷ outer) = same_expanded signature_name (element_name (tag ∷ outer) tag.name) || is_in_signature outer

-- whether the set reaches a place that stands in the scope of elements: the node there is in the set, unless it is a comment and
-- comments are not
abbrev pub reaches_in : NodeSet → List Tag → Path → Bool
reaches_in set tags path =
    is_within set.apex path && not (is_removed set.removed path) && (set.signatures || not (is_in_signature tags))

-- whether a node that has elements around it is in the set
abbrev pub has_in : NodeSet → List Tag → Path → Node → Bool
has_in set outer path node = reaches_in set (with_tag_of node outer) path && (set.comments || not (is_comment node))

-- the same of places and nodes of a document
abbrev pub reaches : NodeSet → Nodes → Path → Bool
reaches set document path = reaches_in set (tags_at document path) path

abbrev pub has : NodeSet → Nodes → Path → Bool
has set document path = option_map_or (has_in set (elements_around document path) path) (node_at document path) false

-- The nodes below a path that pass a test, each with those below it that do. The nodes begin with the k-th there; the test is also
-- given the elements around a node.
abbrev mutual
  pub kept : (List Tag → Path → Node → Bool) → List Tag → Path → ℕ → Nodes → Nodes
  kept test outer path k no_nodes = no_nodes
  kept test outer path k (node ⨾ nodes) =
      if test outer (path ++ k ∷ []) node then kept_node test outer (path ++ k ∷ []) node ⨾ kept test outer path (suc k) nodes
      else kept test outer path (suc k) nodes

  pub kept_node : (List Tag → Path → Node → Bool) → List Tag → Path → Node → Node
  kept_node test outer path (Element name attributes nodes) =
      Element name attributes (kept test (record { name = name; attributes = attributes } ∷ outer) path 0 nodes)
  kept_node test outer path (Text cs) = Text cs
  kept_node test outer path (Comment cs) = Comment cs
  kept_node test outer path (Instruction target content) = Instruction target content

-- the part of a document that a set holds: the apex, or the nodes of the document, with what of them is in the set
abbrev pub apex_alone : (List Tag → Path → Node → Bool) → List Tag → Path → Node → Nodes
apex_alone test outer path node = if test outer path node then kept_node test outer path node ⨾ no_nodes else no_nodes

abbrev pub part_from : (List Tag → Path → Node → Bool) → Path → Nodes → Nodes
part_from test [] document = kept test [] [] 0 document
part_from test (k ∷ path) document =
    option_map_or (apex_alone test (elements_around document (k ∷ path)) (k ∷ path)) (node_at document (k ∷ path)) no_nodes

abbrev pub part : NodeSet → Nodes → Nodes
part set document = part_from (has_in set) set.apex document

-- Identifiers. Attributes `Id`, `ID` and `id` without prefix with a value that isn't empty are this project's own choice.

abbrev pub is_identifier : List ℕ → Attribute → Bool
is_identifier value a = not (is_empty value) && is_empty a.name.prefix && (a.value is value)
    && ((a.name.local is codes "Id") || (a.name.local is codes "ID") || (a.name.local is codes "id"))

-- one path for each attribute that is that identifier
abbrev pub once_each : List ℕ → Path → List Attribute → List Path
once_each value path [] = []
once_each value path (a ∷ attributes) = if is_identifier value a then path ∷ once_each value path attributes else once_each value path attributes

-- the elements with an identifier, in document order, below a path from the k-th node on
abbrev mutual
  pub identified : List ℕ → Path → ℕ → Nodes → List Path
  identified value path k no_nodes = []
  identified value path k (node ⨾ nodes) = identified_in value (path ++ k ∷ []) node ++ identified value path (suc k) nodes

  pub identified_in : List ℕ → Path → Node → List Path
  identified_in value path (Element name attributes nodes) = once_each value path attributes ++ identified value path 0 nodes
  identified_in value path (Text cs) = []
  identified_in value path (Comment cs) = []
  identified_in value path (Instruction target content) = []

-- an identifier is missing, single or double
pub data Target : Type 0 where
  Missing : Target
  Single : Path → Target
  Double : Target

abbrev pub target_among : List Path → Target
target_among [] = Missing
target_among (path ∷ []) = Single path
target_among (path ∷ next ∷ paths) = Double

abbrev pub target_of : List ℕ → Nodes → Target
target_of value document = target_among (identified value [] 0 document)
