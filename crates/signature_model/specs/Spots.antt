-- Elements of a document where they stand, and what they hold. All that the parts of a signature are read by is here.
use Rattle.std.specs.Prelude.{ℕ, suc, Bool, true, false, not, ◌||◌, List, [], ◌∷◌, ◌++◌, if◌then◌else◌, filter, flat_map, map, take, Option}
use Rattle.std.specs.List.{list_all}
use Rattle.std.specs.Option.{option_map_or}
use Rattle.document_model.specs.Characters.{is_white}
use Rattle.document_model.specs.Names.{Expanded, same_expanded}
use Rattle.document_model.specs.Items.{Attribute}
use Rattle.document_model.specs.Tree.{Node, Nodes, Path, Element, Text, Comment, Instruction, no_nodes, ◌⨾◌, node_at, below}
use Rattle.document_model.specs.Scopes.{Tag, element_name, value_among}

-- an element where it stands: its path, and the elements in whose scope it stands, itself first
pub record Spot : Type 0 where
  pub path : Path
  pub tags : List Tag

-- its expanded name
abbrev pub name_in : List Tag → Expanded
name_in [] = record { space = []; local = [] }
name_in (tag ∷ outer) = element_name (tag ∷ outer) tag.name

abbrev pub is_called : Expanded → Spot → Bool
is_called name spot = same_expanded name (name_in spot.tags)

abbrev pub attributes_in : List Tag → List Attribute
attributes_in [] = []
attributes_in (tag ∷ outer) = tag.attributes

-- the value of an attribute without prefix
abbrev pub attribute : List ℕ → Spot → Option (List ℕ)
attribute local spot = value_among spot.tags (record { space = []; local = local }) (attributes_in spot.tags)

abbrev pub has_attribute : List ℕ → Spot → Bool
has_attribute local spot = option_map_or (λ value. true) (attribute local spot) false

-- What an element holds.

-- a node, and nodes, without what they hold
abbrev pub emptied : Node → Node
emptied (Element name attributes nodes) = Element name attributes no_nodes
emptied (Text cs) = Text cs
emptied (Comment cs) = Comment cs
emptied (Instruction target content) = Instruction target content

abbrev pub emptied_all : Nodes → Nodes
emptied_all no_nodes = no_nodes
emptied_all (node ⨾ nodes) = emptied node ⨾ emptied_all nodes

abbrev pub held_in : Option Node → Nodes
held_in o = option_map_or (λ node. emptied_all (below node)) o no_nodes

-- what the element that a path names holds, without what is further below
abbrev pub held_at : Nodes → Path → Nodes
held_at document path = held_in (node_at document path)

-- the elements among nodes that stand at a path from the k-th on
abbrev pub elements_from : Path → List Tag → ℕ → Nodes → List Spot
elements_from path outer k no_nodes = []
elements_from path outer k (Element name attributes inner ⨾ nodes) =
    record { path = path ++ k ∷ []; tags = record { name = name; attributes = attributes } ∷ outer } ∷ elements_from path outer (suc k) nodes
elements_from path outer k (node ⨾ nodes) = elements_from path outer (suc k) nodes

abbrev pub elements_in : Nodes → Spot → List Spot
elements_in document spot = elements_from spot.path spot.tags 0 (held_at document spot.path)

-- those with a name, of one element and of several
abbrev pub called : Nodes → Expanded → Spot → List Spot
called document name spot = filter (is_called name) (elements_in document spot)

abbrev pub called_in : Nodes → Expanded → List Spot → List Spot
called_in document name spots = flat_map (called document name) spots

-- the first of them, if there is one
abbrev pub first : List Spot → List Spot
first spots = take 1 spots

abbrev pub paths : List Spot → List Path
paths spots = map (λ spot. spot.path) spots

-- Text.

-- the text nodes, joined
abbrev pub text_among : Nodes → List ℕ
text_among no_nodes = []
text_among (Text cs ⨾ nodes) = cs ++ text_among nodes
text_among (node ⨾ nodes) = text_among nodes

-- whether there is text that isn't white space
abbrev pub has_stray_text : Nodes → Bool
has_stray_text no_nodes = false
has_stray_text (Text cs ⨾ nodes) = not (list_all is_white cs) || has_stray_text nodes
has_stray_text (node ⨾ nodes) = has_stray_text nodes

-- whether there is nothing but text
abbrev pub is_text_alone : Nodes → Bool
is_text_alone no_nodes = true
is_text_alone (Text cs ⨾ nodes) = is_text_alone nodes
is_text_alone (node ⨾ nodes) = false

abbrev pub text_in : Nodes → Spot → List ℕ
text_in document spot = text_among (held_at document spot.path)

abbrev pub without_white : List ℕ → List ℕ
without_white cs = filter (λ c. not (is_white c)) cs

-- Signatures: the elements with a name that have none with that name around them, in document order. Those below a path from the k-th node
-- on, in the scope of elements.
abbrev mutual
  pub outermost : Expanded → Path → List Tag → ℕ → Nodes → List Spot
  outermost name path outer k no_nodes = []
  outermost name path outer k (node ⨾ nodes) = outermost_in name (path ++ k ∷ []) outer node ++ outermost name path outer (suc k) nodes

  pub outermost_in : Expanded → Path → List Tag → Node → List Spot
  outermost_in name path outer (Element written attributes nodes) =
      let tag : Tag = record { name = written; attributes = attributes } in
      let spot : Spot = record { path = path; tags = tag ∷ outer } in
      if is_called name spot then spot ∷ [] else outermost name path (tag ∷ outer) 0 nodes
  outermost_in name path outer (Text cs) = []
  outermost_in name path outer (Comment cs) = []
  outermost_in name path outer (Instruction target content) = []
