-- The formats of data objects by what they point to, and what else is found once for all References of a signature.
use Rattle.std.specs.Prelude.{◌≡◌, ℕ, Bool, false, List, [], ◌∷◌, filter, take, if◌then◌else◌, codes}
use Rattle.std.specs.Option.{option_map_or}
use Rattle.std.specs.Str.{chars, IsUtf8}
use Rattle.document_model.specs.Characters.{◌is◌}
use Rattle.doc_spans.specs.declared.documents.Doc.{Doc}
use Rattle.doc_spans.specs.declared.documents.NodeId.{NodeId}
use Rattle.doc_spans.specs.Seen.{document_in}
use Rattle.node_index.specs.declared.indices.NodeIndex.{NodeIndex}
use Rattle.node_index.specs.declared.sightings.Sightings.{Sightings}
use Rattle.node_index.specs.declared.sightings.Sightings.TheVariants.{Absent, One, Several}
use Rattle.node_index.specs.Indices.{sighted}
use Rattle.node_index.specs.Sightings.{with_node}
use Rattle.signature_model.specs.Parts.{key_info}
use Rattle.signature_model.specs.Shape.{signed_data_properties}
use Rattle.signature_model.specs.Spots.{Spot, attribute, called_in}
use Rattle.signature_model.specs.Vocabulary.{xades}
use Rattle.signature_elements.specs.Standing.{spot_of, IsThere}
use Rattle.inner_lines.specs.declared.data_objects.DataObjects.{DataObjects}
use Rattle.signature_parts.specs.Parts.{IsPart}

-- whether a format points to this URI
abbrev pub is_to : List ℕ → Spot → Bool
is_to uri format = option_map_or (λ target. target is uri) (attribute (codes "ObjectReference") format) false

-- the elements that were found under a text
abbrev pub seen_in : Doc → Sightings → List Spot
seen_in doc Absent = []
seen_in doc (One node) = spot_of doc node ∷ []
seen_in doc (Several first second) = spot_of doc first ∷ spot_of doc second ∷ []

abbrev pub AreThere : Doc → Sightings → Type 0
AreThere doc Absent = Unit {0}
AreThere doc (One node) = IsThere doc node
AreThere doc (Several first second) = IsThere doc first × IsThere doc second

-- an index has under each text the first two formats that point to it
pub record IsIndexOf (doc : Doc) (formats : List Spot) (index : NodeIndex) : Type 0 where
  pub seen : (uri : List ℕ) → IsUtf8 uri → seen_in doc (sighted index uri) ≡ take 2 (filter (is_to (chars uri)) formats)
  pub there : (uri : List ℕ) → AreThere doc (sighted index uri)

-- one more format stands under what it points to, if anything
pub record AddsFormat (doc : Doc) (format : NodeId) (old new : NodeIndex) : Type 0 where
  pub seen : (uri : List ℕ) → IsUtf8 uri → sighted new uri ≡ (if is_to (chars uri) (spot_of doc format) then with_node format (sighted old uri) else sighted old uri)
  pub there : (uri : List ℕ) → AreThere doc (sighted new uri)

-- the elements are those of the signature
pub record IsFound (doc : Doc) (objects : DataObjects) : Type 0 where
  pub key : IsPart doc (key_info (document_in doc) (spot_of doc objects.signature)) objects.key
  pub properties : IsPart doc (signed_data_properties (document_in doc) (spot_of doc objects.signature)) objects.properties
  pub formats : IsIndexOf doc (called_in (document_in doc) (xades (codes "DataObjectFormat")) (signed_data_properties (document_in doc) (spot_of doc objects.signature))) objects.formats
