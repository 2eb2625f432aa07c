-- Elements that are listed one after another.
use Rattle.std.proofs.Common.{◌≡◌, not, List, [], ◌∷◌, ◌++◌, sym, ◌∙◌, ap, append_assoc}
use Rattle.std.proofs.lemmas.List.{append-nil}
use Rattle.std.proofs.lemmas.List.Elements.{All-nil, All-push, All-same}
use Rattle.std.specs.Prelude.{filter, map}
use Rattle.std.specs.List.{All}
use Rattle.document_model.specs.Tree.{Nodes}
use Rattle.doc_spans.specs.declared.documents.Doc.{Doc}
use Rattle.doc_spans.specs.declared.documents.NodeId.{NodeId}
use Rattle.doc_spans.proofs.Each.{map_join}
use Rattle.signature_elements.specs.Standing.{spot_of, IsThere}
use Rattle.signature_model.specs.Parts.{is_qualifying}
use Rattle.signature_model.specs.Spots.{Spot}
use Rattle.qualifying_props.specs.PartsOf.{AreElements}

-- the nodes so far, and then those that are left, are all
pub record Listing (doc : Doc) (left all : List Spot) (nodes : List NodeId) : Type 0 where
  pub spots : map (spot_of doc) nodes ++ left ≡ all
  pub there : All (IsThere doc) nodes

pub listing_starts : (doc : Doc) (left all : List Spot) (nodes : List NodeId) → nodes ≡ [] → left ≡ all → Listing doc left all nodes
listing_starts doc left all nodes e f = record {
  spots = ap (λ ns. map (spot_of doc) ns ++ left) e ∙ f;
  there = All-same (IsThere doc) nodes [] e (All-nil (IsThere doc));
}

pub listing_goes_on : (doc : Doc) (before left all : List Spot) (nodes : List NodeId) (node : NodeId) → before ≡ spot_of doc node ∷ left → IsThere doc node
    → Listing doc before all nodes → Listing doc left all (nodes ++ node ∷ [])
listing_goes_on doc before left all nodes node e t h = record {
  spots = ap (λ xs. xs ++ left) (map_join (spot_of doc) nodes (node ∷ [])) ∙ append_assoc (map (spot_of doc) nodes) (spot_of doc node ∷ []) left
      ∙ sym (ap (λ xs. map (spot_of doc) nodes ++ xs) e) ∙ h.spots;
  there = All-push (IsThere doc) nodes node h.there t;
}

pub listing_ends : (doc : Doc) (left all : List Spot) (nodes : List NodeId) → left ≡ [] → Listing doc left all nodes → AreElements doc all nodes
listing_ends doc left all nodes e h = record {
  are = sym (append-nil (map (spot_of doc) nodes)) ∙ sym (ap (λ xs. map (spot_of doc) nodes ++ xs) e) ∙ h.spots;
  there = h.there;
}

-- the objects among elements that hold no qualifying properties
abbrev pub others_in : Nodes → List Spot → List Spot
others_in document spots = filter (λ object. not (is_qualifying document object)) spots
