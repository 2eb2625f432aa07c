-- What the URIs of a draft name, place by place.
use Rattle.std.proofs.Common.{slice_get, subst, zero, ◌≡◌, ℕ, suc, ◌+◌, ◌<◌, ◌≤◌, Bool, true, false, cond, List, [], ◌∷◌, ◌++◌, length, map, take, drop, get_or, Some, None, refl, sym, ◌∙◌, ap, arith}
use Rattle.std.proofs.lemmas.List.{length-map, get_or-map, map-append, map_more, drop_more, drop_all}
use Rattle.std.specs.List.{All}
use Rattle.document_model.specs.NodeSets.{Target}
use Rattle.doc_spans.specs.declared.documents.Doc.{Doc}
use Rattle.doc_spans.specs.Seen.{document_in}
use Rattle.signature_model.specs.Chains as model
use Rattle.signature_model.specs.Chains.{on_target, place_named}
use Rattle.reference_chains.specs.declared.places.Place.{Place}
use Rattle.reference_chains.specs.Places.{Found, Whole, found, found_in, HasPlace}
use Rattle.prepared_documents.specs.Tests.{first_at}
use Rattle.augmenter.specs.Targets.{ArePlaces, passes_found}

on_found : (doc : Doc) (test : Target → Bool) (place : model.Place) → on_target (document_in doc) test place ≡ passes_found test (found (document_in doc) place)
on_found doc test model.Document = refl
on_found doc test (model.Named identifier) = refl
on_found doc test model.External = refl

abbrev pub found_for : Doc → List ℕ → Found
found_for doc uri = found (document_in doc) (place_named uri)

pub as_many : (doc : Doc) (uris : List (List ℕ)) (places : List Place) → ArePlaces doc uris places → length places ≡ length uris
as_many doc uris places are = sym (length-map places (found_in doc)) ∙ ap length are.found_are ∙ length-map uris (found_for doc)

-- one of them
pub found_at : (doc : Doc) (uris : List (List ℕ)) (places : List Place) (n : ℕ) (d : Place) → ArePlaces doc uris places → n < length places
    → found_in doc (get_or places n d) ≡ found_for doc (get_or uris n [])
found_at doc uris places n d are h =
    let same = as_many doc uris places are in
    let within : n < length uris = omega (arith, h, same) in
    sym (get_or-map (found_in doc) places n d Whole h) ∙ ap (λ xs. get_or xs n Whole) are.found_are ∙ get_or-map (found_for doc) uris n [] Whole within

passes_at : (doc : Doc) (test : Target → Bool) (uris : List (List ℕ)) (places : List Place) (n : ℕ) (d : Place) → ArePlaces doc uris places → n < length places
    → on_target (document_in doc) test (place_named (get_or uris n [])) ≡ passes_found test (found_in doc (get_or places n d))
passes_at doc test uris places n d are h = on_found doc test (place_named (get_or uris n [])) ∙ ap (passes_found test) (sym (found_at doc uris places n d are h))

-- the search from a place on

pub passed_on : (doc : Doc) (test : Target → Bool) (uris : List (List ℕ)) (places : List Place) (n : ℕ) (place d : Place) → ArePlaces doc uris places → n < length places → place ≡ get_or places n d
    → passes_found test (found_in doc place) ≡ false
    → first_at (on_target (document_in doc) test) (n + 1) (drop n uris) ≡ first_at (on_target (document_in doc) test) (n + 1 + 1) (drop (n + 1) uris)
passed_on doc test uris places n place d are h is e =
    let same = as_many doc uris places are in
    let within : n < length uris = omega (arith, h, same) in
    let next : suc (n + 1) ≡ n + 1 + 1 = omega arith in
    let not : on_target (document_in doc) test (place_named (get_or uris n [])) ≡ false = passes_at doc test uris places n d are h ∙ ap (λ p. passes_found test (found_in doc p)) (sym is) ∙ e in
    ap (first_at (on_target (document_in doc) test) (n + 1)) (drop_more uris n [] within)
    ∙ ap (λ b. cond b (Some (n + 1)) (first_at (on_target (document_in doc) test) (suc (n + 1)) (drop (n + 1) uris))) not
    ∙ ap (λ k. first_at (on_target (document_in doc) test) k (drop (n + 1) uris)) next

pub passes_here : (doc : Doc) (test : Target → Bool) (uris : List (List ℕ)) (places : List Place) (n : ℕ) (place d : Place) → ArePlaces doc uris places → n < length places → place ≡ get_or places n d
    → passes_found test (found_in doc place) ≡ true → first_at (on_target (document_in doc) test) (n + 1) (drop n uris) ≡ Some (n + 1)
passes_here doc test uris places n place d are h is e =
    let same = as_many doc uris places are in
    let within : n < length uris = omega (arith, h, same) in
    let yes : on_target (document_in doc) test (place_named (get_or uris n [])) ≡ true = passes_at doc test uris places n d are h ∙ ap (λ p. passes_found test (found_in doc p)) (sym is) ∙ e in
    ap (first_at (on_target (document_in doc) test) (n + 1)) (drop_more uris n [] within)
    ∙ ap (λ b. cond b (Some (n + 1)) (first_at (on_target (document_in doc) test) (suc (n + 1)) (drop (n + 1) uris))) yes

pub none_left : (doc : Doc) (test : Target → Bool) (uris : List (List ℕ)) (places : List Place) (n : ℕ) → ArePlaces doc uris places → length places ≤ n
    → first_at (on_target (document_in doc) test) (n + 1) (drop n uris) ≡ None
none_left doc test uris places n are h =
    let same = as_many doc uris places are in
    let past : length uris ≤ n = omega (arith, h, same) in
    ap (first_at (on_target (document_in doc) test) (n + 1)) (drop_all n uris past)

-- one more place behind those that were found

all_push : {X : Type 0} (P : X → Type 0) (xs : List X) (x : X) → All P xs → P x → All P (xs ++ x ∷ [])
all_push P [] x h p zero d l = p
all_push P [] x h p (suc k) d l = absurd (omega (arith, l))
all_push P (y ∷ xs) x h p zero d l = h 0 d (omega arith)
all_push P (y ∷ xs) x h p (suc k) d l = all_push P xs x (λ j e m. h (suc j) e (omega (arith, m))) p k d (omega (arith, l))

pub found_is : (xs : List (List ℕ)) (k : ℕ) (x : List ℕ) → slice_get xs k ≡ Some x → (k < length xs) × (x ≡ get_or xs k [])
found_is [] k x e = cc
found_is (y ∷ xs) zero x e = (omega arith, cc)
found_is (y ∷ xs) (suc k) x e = let f = found_is xs k x e in let l = f.0 in (omega (arith, l), f.1)

pub place_pushed : (doc : Doc) (uris : List (List ℕ)) (n : ℕ) (uri : List ℕ) (old new : List Place) (place : Place) → new ≡ old ++ place ∷ [] → slice_get uris n ≡ Some uri
    → found_in doc place ≡ found_for doc uri → HasPlace doc place
    → (map (found_in doc) old ≡ map (found_for doc) (take n uris)) × All (HasPlace doc) old
    → (map (found_in doc) new ≡ map (found_for doc) (take (n + 1) uris)) × All (HasPlace doc) new
place_pushed doc uris n uri old new place e at f has before =
    let named = found_is uris n uri at in (
      ap (map (found_in doc)) e ∙ map-append (found_in doc) old (place ∷ [])
          ∙ (λ i. before.0 i ++ (f ∙ ap (found_for doc) named.1) i ∷ [])
          ∙ sym (map_more (found_for doc) uris n [] named.0),
      subst (All (HasPlace doc)) (sym e) (all_push (HasPlace doc) old place before.1 has),
    )
