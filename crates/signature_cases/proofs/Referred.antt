-- The digests of the References in memory are those that are shown.
use Rattle.std.proofs.Common.{◌≡◌, ℕ, zero, suc, ◌+◌, ◌-◌, ◌<◌, ◌==◌, Bool, true, false, cond, List, [], ◌∷◌, ◌++◌, length, map, take, Some, slice_get, refl, sym, ◌∙◌, ap, subst, append_assoc, arith}
use Rattle.std.specs.Prelude.{flat_map, option_map}
use Rattle.std.proofs.lemmas.List.{map-append}
use Rattle.archive_octets.proofs.Listing.{mapped}
use Rattle.std.specs.Cmp.{unsigned_Decides}
use Rattle.document_model.specs.Tree.{Nodes}
use Rattle.signature_model.specs.Chains.{Handed}
use Rattle.signature_model.specs.Parts.{properties, references}
use Rattle.signature_model.specs.Spots.{Spot}
use Rattle.qualifying_props.specs.PartsOf.{key_octets}
use Rattle.signature_objects.specs.Objects.{Object, Octets, Value, Certificate, has, number_of, octets_from, with_objects}
use Rattle.signature_objects.specs.Held.{objects, objects_in}
use Rattle.signature_evidence.specs.Evidence.{computed_digests, reference_digests}
use Rattle.signature_evidence.proofs.Numbers.{first_had, has_behind, same_self, stays_with, with_both}
use Rattle.case_steps.proofs.Begun.{front_is}
use Rattle.signature_cases.specs.Built.{uses_from}
use Rattle.signature_cases.specs.References.{row_of}
use Rattle.signature_cases.proofs.Shown.{taken}
use Rattle.signature_cases.specs.declared.cases.ReferenceDigest.{ReferenceDigest}

-- Their numbers.

differ : (k i : ℕ) → (k ≡ i → ⊥) → (k == i) ≡ false
differ k i d = by_bool (k == i) (unsigned_Decides k i).0
  where
    by_bool : (b : Bool) → (b ≡ true → k ≡ i) → b ≡ false
    by_bool true f = absurd (d (f refl))
    by_bool false f = refl

octets_there : (k n j : ℕ) (more : List Object) → j < n → has (octets_from k n ++ more) (Octets (k + j)) ≡ true
octets_there k zero j more lt = absurd (omega (arith, lt))
octets_there k (suc n) zero more lt = let e : k + 0 ≡ k = omega arith in subst (λ (i : ℕ). has (Octets k ∷ octets_from (suc k) n ++ more) (Octets i) ≡ true) (sym e) (first_had (Octets k) (octets_from (suc k) n ++ more))
octets_there k (suc n) (suc j) more lt =
    let e : suc k + j ≡ k + suc j = omega arith in
    has_behind (Octets k ∷ []) (octets_from (suc k) n ++ more) (Octets (k + suc j))
    (subst (λ (i : ℕ). has (octets_from (suc k) n ++ more) (Octets i) ≡ true) e (octets_there (suc k) n j more (omega (arith, lt))))

octets_number : (k n j : ℕ) (more : List Object) → j < n → number_of (octets_from k n ++ more) (Octets (k + j)) ≡ j
octets_number k zero j more lt = absurd (omega (arith, lt))
octets_number k (suc n) zero more lt =
    let e : k + 0 ≡ k = omega arith in
    ap (λ (i : ℕ). number_of (Octets k ∷ octets_from (suc k) n ++ more) (Octets i)) e
    ∙ ap (λ b. cond b 0 (suc (number_of (octets_from (suc k) n ++ more) (Octets k)))) (same_self (Octets k))
octets_number k (suc n) (suc j) more lt =
    let e : k + suc j ≡ suc k + j = omega arith in
    ap (λ b. cond b 0 (suc (number_of (octets_from (suc k) n ++ more) (Octets (k + suc j))))) (differ (k + suc j) k (λ same. omega (arith, same)))
    ∙ ap (λ (i : ℕ). suc (number_of (octets_from (suc k) n ++ more) (Octets i))) e
    ∙ ap suc (octets_number (suc k) n j more (omega (arith, lt)))

-- what stands behind the octets of the References and the value
abbrev rest_of : Nodes → Spot → List Object → List Object
rest_of document signature more =
    (map (λ octets. Certificate octets) (key_octets document signature) ++ flat_map (objects_in document) (properties document signature)) ++ more

objects_begin : (document : Nodes) (signature : Spot) (more : List Object)
    → objects document signature more ≡ with_objects (octets_from 1 (length (references document signature)) ++ Value ∷ []) (rest_of document signature more)
objects_begin document signature more =
    let count : ℕ = length (references document signature) in
    let begun : List Object = octets_from 1 count ++ Value ∷ [] in
    let keys : List Object = map (λ octets. Certificate octets) (key_octets document signature) in
    let inner : List Object = flat_map (objects_in document) (properties document signature) in
    let front : with_objects [] (octets_from 1 count ++ Value ∷ keys) ≡ with_objects begun keys =
    ap (with_objects []) (sym (append_assoc (octets_from 1 count) (Value ∷ []) keys)) ∙ with_both [] begun keys ∙ ap (λ all. with_objects all keys) (front_is count) in
    ap (λ all. with_objects (with_objects all inner) more) front
    ∙ ap (λ all. with_objects all more) (sym (with_both begun keys inner))
    ∙ sym (with_both begun (keys ++ inner) more)

pub octets_numbered : (document : Nodes) (signature : Spot) (more : List Object) (j : ℕ) → j < length (references document signature)
    → number_of (objects document signature more) (Octets (suc j)) ≡ j
octets_numbered document signature more j lt =
    let count : ℕ = length (references document signature) in
    let e : 1 + j ≡ suc j = omega arith in
    ap (λ all. number_of all (Octets (suc j))) (objects_begin document signature more)
    ∙ stays_with (octets_from 1 count ++ Value ∷ []) (rest_of document signature more) (Octets (suc j))
    (subst (λ (i : ℕ). has (octets_from 1 count ++ Value ∷ []) (Octets i) ≡ true) e (octets_there 1 count j (Value ∷ []) lt))
    ∙ ap (λ (i : ℕ). number_of (octets_from 1 count ++ Value ∷ []) (Octets i)) (sym e)
    ∙ octets_number 1 count j (Value ∷ []) lt

-- The rows.

-- one row more
pub rows_on : (f : Spot → ReferenceDigest) (spots : List Spot) (i : ℕ) (row : ReferenceDigest) (rows : List ReferenceDigest)
    → option_map f (slice_get spots (i + 1 - 1)) ≡ Some row → rows ≡ map f (take i spots) → rows ++ row ∷ [] ≡ map f (take (i + 1) spots)
rows_on f spots i row rows e h =
    let same : i + 1 - 1 ≡ i = omega arith in
    let at = mapped f (slice_get spots (i + 1 - 1)) row e in
    let place : slice_get spots i ≡ Some at.0 = ap (slice_get spots) (sym same) ∙ at.1 in
    (λ j. h j ++ sym at.2 j ∷ []) ∙ sym (ap (map f) (taken spots i at.0 place) ∙ map-append f (take i spots) (at.0 ∷ []))

uses_are : (handed : Handed) (document : Nodes) (signature : Spot) (all : List Object) (k : ℕ) (spots : List Spot)
    → ((j : ℕ) → j < length spots → number_of all (Octets (suc (k + j))) ≡ k + j)
    → uses_from k (map (row_of handed document signature.path) spots) ≡ reference_digests handed document signature all (suc k) spots
uses_are handed document signature all k [] h = refl
uses_are handed document signature all k (spot ∷ spots) h =
    let e : k + 0 ≡ k = omega arith in
    let first : k ≡ number_of all (Octets (suc k)) = sym (subst (λ (i : ℕ). number_of all (Octets (suc i)) ≡ i) e (h 0 (omega arith))) in
    let row : ReferenceDigest = row_of handed document signature.path spot in
    let rest = uses_are handed document signature all (suc k) spots
    (λ j lt. let s : k + suc j ≡ suc k + j = omega arith in subst (λ (i : ℕ). number_of all (Octets (suc i)) ≡ i) s (h (suc j) (omega (arith, lt)))) in
    λ i. record { object = first i; kind = row.kind; matches = row.matches } ∷ rest i

pub references_are : (handed : Handed) (document : Nodes) (signature : Spot) (more : List Object)
    → uses_from 0 (map (row_of handed document signature.path) (references document signature))
    ≡ reference_digests handed document signature (objects document signature more) 1 (references document signature)
references_are handed document signature more =
    uses_are handed document signature (objects document signature more) 0 (references document signature)
    (λ j lt. let e : 0 + j ≡ j = omega arith in subst (λ (i : ℕ). number_of (objects document signature more) (Octets (suc i)) ≡ i) (sym e) (octets_numbered document signature more j lt))

pub computed_are : (handed : Handed) (document : Nodes) (signature : Spot) (spots : List Spot)
    → map (λ (row : ReferenceDigest). row.computed) (map (row_of handed document signature.path) spots) ≡ computed_digests handed document signature spots
computed_are handed document signature [] = refl
computed_are handed document signature (spot ∷ spots) =
    ap (λ (rest : List (List ℕ)). (row_of handed document signature.path spot).computed ∷ rest) (computed_are handed document signature spots)
