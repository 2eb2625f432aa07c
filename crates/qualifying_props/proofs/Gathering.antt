-- Properties that are read one after another.
use Rattle.std.proofs.Common.{◌≡◌, List, [], ◌∷◌, ◌++◌, ◌∙◌, ap}
use Rattle.std.proofs.lemmas.List.Elements.{All-nil, All-push, All-same}
use Rattle.std.specs.Prelude.{flat_map, map}
use Rattle.std.specs.List.{All}
use Rattle.document_model.specs.Tree.{Nodes, Path}
use Rattle.doc_spans.specs.declared.documents.Doc.{Doc}
use Rattle.doc_spans.specs.declared.documents.NodeId.{NodeId}
use Rattle.doc_spans.specs.Seen.{document_in}
use Rattle.doc_spans.proofs.Each.{map_join}
use Rattle.signature_elements.specs.Standing.{spot_of, IsThere}
use Rattle.signature_model.specs.Parts.{data_of}
use Rattle.signature_model.specs.Spots.{Spot}
use Rattle.signature_parts.specs.declared.places.FirstPlace.{FirstPlace}
use Rattle.signature_parts.specs.Places.{Adds, IsWithin}
use Rattle.signature_parts.proofs.Adding.{Adding, adding_goes_on, adding_ends}
use Rattle.qualifying_props.specs.Data.{bad_places}
use Rattle.qualifying_props.specs.PartsOf.{AreProperties, IsProperty}
use Rattle.qualifying_props.specs.Properties.{IsOf}
use Rattle.qualifying_props.specs.Shown.{ShownProperty}
use Rattle.qualifying_props.proofs.Listing.{Listing, listing_starts, listing_goes_on, listing_ends}
use Rattle.qualifying_props.proofs.Reading.{bad_places-append, bad_starts}

abbrev pub nodes_of : List ShownProperty → List NodeId
nodes_of properties = map (λ property. property.node) properties

-- the bad places of the data of properties
abbrev pub bad_of : Nodes → List Spot → List Path
bad_of document properties = bad_places document (flat_map (data_of document) properties)

pub record Gathering (doc : Doc) (left all : List Spot) (found : List ShownProperty) (start kept : FirstPlace) : Type 0 where
  pub elements : Listing doc left all (nodes_of found)
  pub each : All (IsProperty doc) found
  pub bad : Adding doc (bad_of (document_in doc) left) (bad_of (document_in doc) all) start kept

pub gathering_starts : (doc : Doc) (left all : List Spot) (found : List ShownProperty) (bad : FirstPlace) → found ≡ [] → left ≡ all → IsWithin doc bad
    → Gathering doc left all found bad bad
gathering_starts doc left all found bad e f h = record {
  elements = listing_starts doc left all (nodes_of found) (ap nodes_of e) f;
  each = All-same (IsProperty doc) found [] e (All-nil (IsProperty doc));
  bad = bad_starts doc (flat_map (data_of (document_in doc)) left) (flat_map (data_of (document_in doc)) all) bad (ap (flat_map (data_of (document_in doc))) f) h;
}

pub gathering_goes_on : (doc : Doc) (before left all : List Spot) (found : List ShownProperty) (node : NodeId) (property : ShownProperty) (start x y : FirstPlace)
    → before ≡ spot_of doc node ∷ left → IsThere doc node → IsOf doc node property
    → Adds doc (bad_places (document_in doc) (data_of (document_in doc) (spot_of doc node))) x y
    → Gathering doc before all found start x → Gathering doc left all (found ++ property ∷ []) start y
gathering_goes_on doc before left all found node property start x y e there is adds h =
    let document = document_in doc in
    let listed = listing_goes_on doc before left all (nodes_of found) node e there h.elements in
    let nodes : nodes_of (found ++ property ∷ []) ≡ nodes_of found ++ node ∷ [] =
    map_join (λ p. p.node) found (property ∷ []) ∙ ap (λ n. nodes_of found ++ n ∷ []) is.at in
    record {
      elements = record {
        spots = ap (λ ns. map (spot_of doc) ns ++ left) nodes ∙ listed.spots;
        there = All-same (IsThere doc) _ _ nodes listed.there;
      };
      each = All-push (IsProperty doc) found property h.each is.is;
      bad = adding_goes_on doc (bad_places document (data_of document (spot_of doc node))) (bad_of document left) (bad_of document before) (bad_of document all) x y start
          (ap (bad_of document) e ∙ bad_places-append document (data_of document (spot_of doc node)) (flat_map (data_of document) left)) h.bad adds;
    }

pub gathering_ends : (doc : Doc) (left all : List Spot) (found : List ShownProperty) (start bad : FirstPlace) → left ≡ [] → Gathering doc left all found start bad
    → AreProperties doc all found × Adds doc (bad_of (document_in doc) all) start bad
gathering_ends doc left all found start bad e h = (
  record { elements = listing_ends doc left all (nodes_of found) e h.elements; each = h.each },
  adding_ends doc (bad_of (document_in doc) left) (bad_of (document_in doc) all) bad start (ap (bad_of (document_in doc)) e) h.bad,
)
