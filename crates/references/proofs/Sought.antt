-- What the places of References tell of their targets.
use Rattle.std.proofs.Common.{◌≡◌, ℕ, suc, ◌+◌, Bool, false, List, Option, Some, None, refl, sym, ◌∙◌, ap, add-one}
use Rattle.std.proofs.lemmas.List.Elements.{recursion_from_All}
use Rattle.std.specs.Prelude.{option_map}
use Rattle.std.specs.List.{position_from}
use Rattle.document_model.specs.Tree.{Nodes}
use Rattle.document_model.specs.NodeSets.{Target}
use Rattle.doc_spans.specs.declared.documents.Doc.{Doc}
use Rattle.doc_spans.specs.Seen.{document_in}
use Rattle.node_sets.specs.declared.identifiers.IdAnswer.TheVariants.{One, Absent, Many}
use Rattle.signature_elements.specs.Standing.{spot_of}
use Rattle.signature_model.specs.Chains as model
use Rattle.signature_model.specs.Chains.{Fault, TargetMissing, TargetTwice, first_of, is_missing, is_double, on_target, target_missing, target_twice, when}
use Rattle.signature_model.specs.Spots.{Spot}
use Rattle.reference_chains.specs.declared.places.Place.{Place}
use Rattle.reference_chains.specs.declared.places.Place.TheVariants.{Document, Named, External}
use Rattle.reference_chains.specs.Places.{Found, Whole, Sought as SoughtIn, Outside, found, found_in}
use Rattle.references.specs.declared.targets.Sought.{Sought}
use Rattle.references.specs.Found.{names_none, names_several, AreSought, IsSought}
use Rattle.references.proofs.Firsts.{Test}
use Rattle.references.proofs.Judging.{first_at}

-- a test of the target that was found
abbrev on_found : (Target → Bool) → Found → Bool
on_found test Whole = false
on_found test (SoughtIn target) = test target
on_found test Outside = false

on_place : (test : Target → Bool) (document : Nodes) (place : model.Place) → on_found test (found document place) ≡ on_target document test place
on_place test document model.Document = refl
on_place test document (model.Named identifier) = refl
on_place test document model.External = refl

none_found : (doc : Doc) (place : Place) → names_none place ≡ on_found is_missing (found_in doc place)
none_found doc Document = refl
none_found doc (Named (One node)) = refl
none_found doc (Named Absent) = refl
none_found doc (Named Many) = refl
none_found doc External = refl

several_found : (doc : Doc) (place : Place) → names_several place ≡ on_found is_double (found_in doc place)
several_found doc Document = refl
several_found doc (Named (One node)) = refl
several_found doc (Named Absent) = refl
several_found doc (Named Many) = refl
several_found doc External = refl

pub is_none : (doc : Doc) (sought : Sought) → IsSought doc sought → names_none sought.place ≡ on_target (document_in doc) is_missing (model.place (spot_of doc sought.node))
is_none doc sought h =
    none_found doc sought.place ∙ ap (on_found is_missing) h.found_is ∙ on_place is_missing (document_in doc) (model.place (spot_of doc sought.node))

pub are_several : (doc : Doc) (sought : Sought) → IsSought doc sought → names_several sought.place ≡ on_target (document_in doc) is_double (model.place (spot_of doc sought.node))
are_several doc sought h =
    several_found doc sought.place ∙ ap (on_found is_double) h.found_is ∙ on_place is_double (document_in doc) (model.place (spot_of doc sought.node))

-- the first Reference whose target has a fault, by its place
pub target_at : (doc : Doc) (test : Test) (of : Target → Bool) (fault : ℕ → Fault) (names : Place → Bool)
    → ((k : ℕ) (s : Spot) → test k s ≡ when (on_target (document_in doc) of (model.place s)) (fault k))
    → ((sought : Sought) → IsSought doc sought → names sought.place ≡ on_target (document_in doc) of (model.place (spot_of doc sought.node)))
    → (spots : List Spot) (all : List Sought) → AreSought doc spots all
    → first_of test 1 spots ≡ option_map (λ n. fault (n + 1)) (position_from (λ (s : Sought). names s.place) 0 all)
target_at doc test of fault names is same spots all h =
    ap (first_of test 1) (sym h.same)
    ∙ first_at (IsSought doc) test (λ s. on_target (document_in doc) of (model.place s)) fault (λ (s : Sought). names s.place) (λ (s : Sought). spot_of doc s.node) is same 0 all
    (recursion_from_All (IsSought doc) all h.each)
    ∙ counted (position_from (λ (s : Sought). names s.place) 0 all)
  where
    counted : (o : Option ℕ) → option_map (λ n. fault (suc n)) o ≡ option_map (λ n. fault (n + 1)) o
    counted None = refl
    counted (Some n) = ap (λ k. Some (fault k)) (sym (add-one n))

pub missing_at : (doc : Doc) (spots : List Spot) (all : List Sought) → AreSought doc spots all
    → first_of (target_missing (document_in doc)) 1 spots ≡ option_map (λ n. TargetMissing (n + 1)) (position_from (λ (s : Sought). names_none s.place) 0 all)
missing_at doc spots all h = target_at doc (target_missing (document_in doc)) is_missing (λ k. TargetMissing k) names_none (λ k s. refl) (is_none doc) spots all h

pub twice_at : (doc : Doc) (spots : List Spot) (all : List Sought) → AreSought doc spots all
    → first_of (target_twice (document_in doc)) 1 spots ≡ option_map (λ n. TargetTwice (n + 1)) (position_from (λ (s : Sought). names_several s.place) 0 all)
twice_at doc spots all h = target_at doc (target_twice (document_in doc)) is_double (λ k. TargetTwice k) names_several (λ k s. refl) (are_several doc) spots all h
