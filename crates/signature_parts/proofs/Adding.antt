-- Places that are added one after another.
use Rattle.std.proofs.Common.{◌≡◌, Bool, true, false, cond, List, [], ◌∷◌, ◌++◌, Option, Some, None, refl, sym, ◌∙◌, ap}
use Rattle.std.specs.Prelude.{filter, option_map}
use Rattle.document_model.specs.Tree.{Path}
use Rattle.doc_spans.specs.declared.documents.Doc.{Doc}
use Rattle.doc_spans.specs.declared.documents.NodeId.{NodeId}
use Rattle.doc_spans.specs.Seen.{document_in, path_in}
use Rattle.signature_model.specs.Faults.{with_places}
use Rattle.signature_model.specs.Holding.{with_stray_text}
use Rattle.signature_model.specs.Spots.{Spot, paths, has_stray_text, held_at}
use Rattle.signature_model.proofs.FirstFaults.{with_places_append, with_places_first}
use Rattle.signature_elements.specs.Standing.{spot_of, spot_or_none, IsThere}
use Rattle.signature_parts.specs.declared.places.FirstPlace.{FirstPlace}
use Rattle.signature_parts.specs.Parts.{IsPart}
use Rattle.signature_parts.specs.Places.{place_in, Adds, IsFirst, IsWithin}

-- none, and those of two lists
pub adds_none : (doc : Doc) (x : FirstPlace) → IsWithin doc x → Adds doc [] x x
adds_none doc x h = record { place = refl; within = h }

pub adds_as : (doc : Doc) (a b : List Path) (x y : FirstPlace) → a ≡ b → Adds doc a x y → Adds doc b x y
adds_as doc a b x y e h = record { place = h.place ∙ ap (λ places. with_places places (place_in doc x)) e; within = h.within }

pub adds_more : (doc : Doc) (a b : List Path) (x y z : FirstPlace) → Adds doc a x y → Adds doc b y z → Adds doc (a ++ b) x z
adds_more doc a b x y z h k = record {
  place = k.place ∙ ap (with_places b) h.place ∙ sym (with_places_append a b (place_in doc x));
  within = k.within;
}

-- from none on, the place is the first
pub adds_first : (doc : Doc) (places : List Path) (x y : FirstPlace) → x.node ≡ None → Adds doc places x y → IsFirst doc places y
adds_first doc places x y e h =
    record { place = h.place ∙ ap (λ node. with_places places (option_map (path_in doc) node)) e ∙ with_places_first places; within = h.within }

-- those of a part are those of the elements that it is
pub adds_at : (f : List Spot → List Path) (doc : Doc) (spots : List Spot) (part : Option NodeId) (x y : FirstPlace) → IsPart doc spots part
    → Adds doc (f (spot_or_none doc part)) x y → Adds doc (f spots) x y
adds_at f doc spots part x y p h = adds_as doc _ _ x y (ap f p.spot) h

pub adds_by : {A : Type 0} (f : A → List Spot → List Path) (doc : Doc) (a b : A) (spots : List Spot) (part : Option NodeId) (x y : FirstPlace) → a ≡ b → IsPart doc spots part
    → Adds doc (f a (spot_or_none doc part)) x y → Adds doc (f b spots) x y
adds_by f doc a b spots part x y e p h = adds_as doc _ _ x y (λ i. f (e i) (p.spot i)) h

pub part_of : (doc : Doc) (node : NodeId) → IsThere doc node → IsPart doc (spot_of doc node ∷ []) (Some node)
part_of doc node h = record { spot = refl; there = h }

-- One element that passes a test.

by_test : (b : Bool) (spot : Spot) → cond b (spot.path ∷ []) [] ≡ paths (cond b (spot ∷ []) [])
by_test true spot = refl
by_test false spot = refl

pub adds_tested : (p : Spot → Bool) (doc : Doc) (node : NodeId) (test : Bool) (x y : FirstPlace) → test ≡ p (spot_of doc node)
    → Adds doc (cond test (path_in doc node ∷ []) []) x y → Adds doc (paths (filter p (spot_of doc node ∷ []))) x y
adds_tested p doc node test x y e h =
    adds_as doc _ _ x y (ap (λ b. cond b (path_in doc node ∷ []) []) e ∙ by_test (p (spot_of doc node)) (spot_of doc node)) h

-- Elements that pass a test, of two lists.

pub tests_joined : (p : Spot → Bool) (a b : List Spot) → paths (filter p a) ++ paths (filter p b) ≡ paths (filter p (a ++ b))
tests_joined p [] b = refl
tests_joined p (spot ∷ a) b = by_bool (p spot) (tests_joined p a b)
  where
    by_bool : (t : Bool) → paths (filter p a) ++ paths (filter p b) ≡ paths (filter p (a ++ b))
        → paths (cond t (spot ∷ filter p a) (filter p a)) ++ paths (filter p b) ≡ paths (cond t (spot ∷ filter p (a ++ b)) (filter p (a ++ b)))
    by_bool true e = ap (λ places. spot.path ∷ places) e
    by_bool false e = e

pub adds_tests : (p : Spot → Bool) (doc : Doc) (a b : List Spot) (x y z : FirstPlace) → Adds doc (paths (filter p a)) x y → Adds doc (paths (filter p b)) y z
    → Adds doc (paths (filter p (a ++ b))) x z
adds_tests p doc a b x y z h k = adds_as doc _ _ x z (tests_joined p a b) (adds_more doc _ _ x y z h k)

pub adds_strays : (doc : Doc) (a b : List Spot) (x y z : FirstPlace) → Adds doc (with_stray_text (document_in doc) a) x y → Adds doc (with_stray_text (document_in doc) b) y z
    → Adds doc (with_stray_text (document_in doc) (a ++ b)) x z
adds_strays doc a b x y z h k = adds_tests (λ spot. has_stray_text (held_at (document_in doc) spot.path)) doc a b x y z h k

-- In a loop: what the places that are left come to is what all of them came to.
pub record Adding (doc : Doc) (left all : List Path) (start now : FirstPlace) : Type 0 where
  pub places : with_places left (place_in doc now) ≡ with_places all (place_in doc start)
  pub within : IsWithin doc now

pub adding_starts : (doc : Doc) (all : List Path) (x : FirstPlace) → IsWithin doc x → Adding doc all all x x
adding_starts doc all x h = record { places = refl; within = h }

pub adding_goes_on : (doc : Doc) (these left before all : List Path) (x y start : FirstPlace) → before ≡ these ++ left → Adding doc before all start x → Adds doc these x y
    → Adding doc left all start y
adding_goes_on doc these left before all x y start e h k = record {
  places = ap (with_places left) k.place ∙ sym (with_places_append these left (place_in doc x)) ∙ sym (ap (λ places. with_places places (place_in doc x)) e) ∙ h.places;
  within = k.within;
}

pub adding_ends : (doc : Doc) (left all : List Path) (x start : FirstPlace) → left ≡ [] → Adding doc left all start x → Adds doc all start x
adding_ends doc left all x start e h = record { place = sym (ap (λ places. with_places places (place_in doc x)) e) ∙ h.places; within = h.within }
