-- What the URIs of a draft name, once identifiers have been looked up: XML Signature 1.1, "The URI Attribute".
use Rattle.std.specs.Prelude.{◌≡◌, ℕ, Bool, false, List, map}
use Rattle.std.specs.List.{All}
use Rattle.document_model.specs.NodeSets.{Target}
use Rattle.doc_spans.specs.declared.documents.Doc.{Doc}
use Rattle.doc_spans.specs.Seen.{Has, document_in, path_in}
use Rattle.signature_model.specs.Chains.{is_missing, is_double, place_named}
use Rattle.reference_chains.specs.declared.places.Place.{Place}
use Rattle.reference_chains.specs.Places.{Found, Whole, Sought, Outside, found, found_in, HasPlace}
use Rattle.prepared_documents.specs.Places.{root_of}
use Rattle.prepared_documents.specs.Tests.{is_root}
use Rattle.augmenter.specs.declared.targets.TargetTest.{TargetTest}
use Rattle.augmenter.specs.declared.targets.TargetTest.TheVariants.{Missing, Several, Root}

-- places in memory, one for each URI in their order
pub record ArePlaces (doc : Doc) (uris : List (List ℕ)) (places : List Place) : Type 0 where
  pub found_are : map (found_in doc) places ≡ map (λ uri. found (document_in doc) (place_named uri)) uris
  pub have : All (HasPlace doc) places

-- a test on the target of an identifier
abbrev pub test_on : Doc → TargetTest → Target → Bool
test_on doc Missing = is_missing
test_on doc Several = is_double
test_on doc (Root node) = is_root (document_in doc)

-- by what was found of a URI
abbrev pub passes_found : (Target → Bool) → Found → Bool
passes_found test Whole = false
passes_found test (Sought target) = test target
passes_found test Outside = false

-- the node that a test asks for is the document element
abbrev pub IsRoot : Doc → TargetTest → Type 0
IsRoot doc Missing = Unit {0}
IsRoot doc Several = Unit {0}
IsRoot doc (Root node) = Has doc node × (path_in doc node ≡ root_of (document_in doc))
