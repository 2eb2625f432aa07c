-- Elements of a document in memory where they stand.
use Rattle.std.specs.Prelude.{◌≡◌, Bool, false, true, List, [], ◌∷◌, length, map, filter, Option, None, Some, option_map, MatchOption}
use Rattle.std.specs.Iterator.{Count, at_most}
use Rattle.std.specs.Option.{option_map_or}
use Rattle.document_model.specs.Tree.{Node, Nodes, Path, Element, Text, Comment, Instruction, node_at}
use Rattle.document_model.specs.Scopes.{tags_at}
use Rattle.doc_spans.specs.declared.documents.Doc.{Doc}
use Rattle.doc_spans.specs.declared.documents.NodeId.{NodeId}
use Rattle.doc_spans.specs.declared.rows.Kind.TheVariants as kinds
use Rattle.doc_spans.specs.Seen.{Has, path_in, node_in}
use Rattle.doc_spans.specs.Shown.{kind_of}
use Rattle.node_sets.specs.Scopes.{scope_of}
use Rattle.signature_model.specs.Spots.{Spot}

-- a node where it stands, with the elements in whose scope it stands
abbrev pub spot_of : Doc → NodeId → Spot
spot_of doc node = record { path = path_in doc node; tags = scope_of doc node }

-- as a list, which is empty where there is no node
abbrev pub spot_or_none : Doc → Option NodeId → List Spot
spot_or_none doc None = []
spot_or_none doc (Some node) = spot_of doc node ∷ []

-- the node is an element
abbrev pub IsElement : Doc → NodeId → Type 0
IsElement doc node = option_map kind_of (node_in doc node) ≡ Some kinds.Element

-- the number names a node of the document, which is an element
abbrev pub IsThere : Doc → NodeId → Type 0
IsThere doc node = Has doc node × IsElement doc node

-- By paths.

abbrev pub spot_at : Nodes → Path → Spot
spot_at document path = record { path = path; tags = tags_at document path }

abbrev pub is_element : Node → Bool
is_element (Element name attributes nodes) = true
is_element (Text cs) = false
is_element (Comment cs) = false
is_element (Instruction target content) = false

-- whether the path names an element
abbrev pub is_element_at : Nodes → Path → Bool
is_element_at document path = option_map_or is_element (node_at document path) false

-- the elements that some paths name
abbrev pub spots_at : Nodes → List Path → List Spot
spots_at document paths = map (spot_at document) (filter (is_element_at document) paths)

-- Iterators over elements of a document, each of which shows its document and the elements that it has left.

-- a call gave the first of them, or none was left; the document stays
abbrev pub GivesSpot : {S : Type 0} → (S → Doc) → (S → List Spot) → S → Option NodeId → S → Type 0
GivesSpot doc_of left before result now =
    (doc_of now ≡ doc_of before)
    × MatchOption result ((left before ≡ []) × (left now ≡ [])) (λ node. IsThere (doc_of before) node × (left before ≡ spot_of (doc_of before) node ∷ left now))

abbrev pub spots_count : {S : Type 0} → (S → List Spot) → S → Count
spots_count left it = at_most (length (left it))
