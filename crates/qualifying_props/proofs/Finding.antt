-- The first of places that are gone through one after another.
use Rattle.std.proofs.Common.{◌≡◌, List, [], ◌∷◌, ◌++◌, Option, None, sym, ◌∙◌, ap, subst}
use Rattle.std.specs.Prelude.{option_map, IfSome}
use Rattle.document_model.specs.Names.{Expanded}
use Rattle.document_model.specs.Tree.{Nodes, Path}
use Rattle.doc_spans.specs.declared.documents.Doc.{Doc}
use Rattle.doc_spans.specs.declared.documents.NodeId.{NodeId}
use Rattle.doc_spans.specs.Seen.{Has, path_in}
use Rattle.doc_spans.proofs.Each.{map_join}
use Rattle.signature_model.specs.Faults.{first_place, with_places}
use Rattle.signature_model.specs.Spots.{Spot, called, called_in, paths}
use Rattle.signature_model.proofs.FirstFaults.{with_places_append, with_places_first}
use Rattle.signature_parts.specs.declared.places.FirstPlace.{FirstPlace}
use Rattle.signature_parts.specs.Places.{place_in, Adds, IsFirst, IsWithin}

-- what is left comes to the first of all
pub record Finding (doc : Doc) (left all : List Path) (now : FirstPlace) : Type 0 where
  pub places : with_places left (place_in doc now) ≡ first_place all
  pub within : IsWithin doc now

-- nothing is kept
pub none_within : (doc : Doc) (now : FirstPlace) → now.node ≡ None → IsWithin doc now
none_within doc now e = let P : Option NodeId → Type 0 = λ o. IfSome o (Has doc) in subst P (sym e) tt

pub finding_starts : (doc : Doc) (left all : List Path) (now : FirstPlace) → now.node ≡ None → left ≡ all → Finding doc left all now
finding_starts doc left all now e f = record {
  places = ap (λ o. with_places left (option_map (path_in doc) o)) e ∙ with_places_first left ∙ ap first_place f;
  within = none_within doc now e;
}

pub finding_goes_on : (doc : Doc) (these left rest all : List Path) (x y : FirstPlace) → rest ≡ these ++ left → Finding doc rest all x → Adds doc these x y
    → Finding doc left all y
finding_goes_on doc these left rest all x y e h k = record {
  places = ap (with_places left) k.place ∙ sym (with_places_append these left (place_in doc x)) ∙ sym (ap (λ places. with_places places (place_in doc x)) e) ∙ h.places;
  within = k.within;
}

pub finding_ends : (doc : Doc) (left all : List Path) (now : FirstPlace) → left ≡ [] → Finding doc left all now → IsFirst doc all now
finding_ends doc left all now e h = record { place = sym (ap (λ places. with_places places (place_in doc now)) e) ∙ h.places; within = h.within }

-- the paths of the elements with a name in one more holder
pub paths_called : (document : Nodes) (name : Expanded) (holders left : List Spot) (holder : Spot) → holders ≡ holder ∷ left
    → paths (called_in document name holders) ≡ paths (called document name holder) ++ paths (called_in document name left)
paths_called document name holders left holder e =
    ap (λ hs. paths (called_in document name hs)) e ∙ map_join (λ spot. spot.path) (called document name holder) (called_in document name left)
