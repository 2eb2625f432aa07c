-- The first Reference that covers a place.
use Rattle.std.proofs.Common.{◌≡◌, ℕ, suc, ◌+◌, ◌≤◌, Bool, true, false, cond, ◌&&◌, ◌||◌, List, [], ◌∷◌, ◌++◌, Some, None, length, drop, refl, sym, ◌∙◌, ap, add-one}
use Rattle.std.proofs.lemmas.List.{drop_all}
use Rattle.std.specs.Prelude.{filter, slice_get}
use Rattle.std.specs.List.{list_any}
use Rattle.document_model.specs.Tree.{Nodes}
use Rattle.doc_spans.proofs.Shows.{drop_get}
use Rattle.signature_model.specs.Covers.{covers_place, first_covering, is_reached}
use Rattle.signature_model.specs.Parts.{host, is_blank, value}
use Rattle.signature_model.specs.Spots.{Spot}

-- whether one of two places is covered, of which the first is one where it is open
either : (test : Spot → Bool) (open_ : Spot → Bool) (v h : Spot) (b : Bool) → open_ v ≡ b
    → list_any test (filter open_ (v ∷ []) ++ h ∷ []) ≡ ((b && test v) || test h)
either test open_ v h true e = ap (λ c. list_any test (cond c (v ∷ []) [] ++ h ∷ [])) e ∙ last (test v) (test h)
  where
    last : (a b : Bool) → (a || (b || false)) ≡ (a || b)
    last true b = refl
    last false true = refl
    last false false = refl
either test open_ v h false e = ap (λ c. list_any test (cond c (v ∷ []) [] ++ h ∷ [])) e ∙ alone (test h)
  where
    alone : (b : Bool) → (b || false) ≡ b
    alone true = refl
    alone false = refl

pub covers_either : (document : Nodes) (signature reference v h : Spot) → v ∷ [] ≡ value document signature → h ∷ [] ≡ host document signature
    → ((is_blank document v && is_reached document signature.path v reference) || is_reached document signature.path h reference) ≡ covers_place document signature reference
covers_either document signature reference v h e f =
    let test = λ (place : Spot). is_reached document signature.path place reference in
    sym (either test (is_blank document) v h (is_blank document v) refl)
    ∙ ap (λ vs. list_any test (filter (is_blank document) vs ++ h ∷ [])) e
    ∙ ap (λ hs. list_any test (filter (is_blank document) (value document signature) ++ hs)) f

-- the first one is among those that are left
pub record Covering (document : Nodes) (signature : Spot) (spots : List Spot) (i : ℕ) : Type 0 where
  pub rest : first_covering document signature 1 spots ≡ first_covering document signature (i + 1) (drop i spots)

pub covering_starts : (document : Nodes) (signature : Spot) (spots : List Spot) → Covering document signature spots 0
covering_starts document signature spots = record { rest = refl }

step : (document : Nodes) (signature : Spot) (spots : List Spot) (i : ℕ) (spot : Spot) (b : Bool) → slice_get spots i ≡ Some spot → covers_place document signature spot ≡ b
    → first_covering document signature (i + 1) (drop i spots) ≡ cond b (Some (i + 1)) (first_covering document signature (i + 1 + 1) (drop (i + 1) spots))
step document signature spots i spot b e f =
    ap (first_covering document signature (i + 1)) (drop_get spots i spot e)
    ∙ ap (λ c. cond c (Some (i + 1)) (first_covering document signature (suc (i + 1)) (drop (suc i) spots))) f
    ∙ ap (λ k. cond b (Some (i + 1)) (first_covering document signature k (drop (suc i) spots))) (sym (add-one (i + 1)))
    ∙ ap (λ k. cond b (Some (i + 1)) (first_covering document signature (i + 1 + 1) (drop k spots))) (sym (add-one i))

pub covering_on : (document : Nodes) (signature : Spot) (spots : List Spot) (i : ℕ) (spot : Spot) → slice_get spots i ≡ Some spot
    → covers_place document signature spot ≡ false → Covering document signature spots i → Covering document signature spots (i + 1)
covering_on document signature spots i spot e f h = record { rest = h.rest ∙ step document signature spots i spot false e f }

pub covering_found : (document : Nodes) (signature : Spot) (spots : List Spot) (i : ℕ) (spot : Spot) → slice_get spots i ≡ Some spot
    → covers_place document signature spot ≡ true → Covering document signature spots i → first_covering document signature 1 spots ≡ Some (i + 1)
covering_found document signature spots i spot e f h = h.rest ∙ step document signature spots i spot true e f

pub covering_ends : (document : Nodes) (signature : Spot) (spots : List Spot) (i : ℕ) → length spots ≤ i → Covering document signature spots i
    → first_covering document signature 1 spots ≡ None
covering_ends document signature spots i past h = h.rest ∙ ap (first_covering document signature (i + 1)) (drop_all i spots past)
