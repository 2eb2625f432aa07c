-- The first Reference whose octets have another digest than it tells.
use Rattle.std.proofs.Common.{◌≡◌, ℕ, suc, ◌+◌, ◌-◌, ◌≤◌, List, Option, Some, None, length, drop, refl, sym, ◌∙◌, ap, add-one, arith}
use Rattle.std.proofs.lemmas.List.{drop_all}
use Rattle.std.proofs.lemmas.Option.{none-some, same_Some}
use Rattle.std.specs.Prelude.{option_map, slice_get}
use Rattle.document_model.specs.Items.{or_else}
use Rattle.document_model.specs.Tree.{Nodes, Path}
use Rattle.doc_spans.proofs.Shows.{drop_get}
use Rattle.signature_model.specs.Chains.{Handed}
use Rattle.signature_model.specs.Spots.{Spot}
use Rattle.signature_checks.specs.Validity.{digest_code, first_differing}
use Rattle.signature_checks.specs.declared.codes.Code.{Code}

-- the first one is among those that are left
pub record Differing (handed : Handed) (document : Nodes) (signature : Path) (spots : List Spot) (i : ℕ) : Type 0 where
  pub rest : first_differing handed document signature 1 spots ≡ first_differing handed document signature (i + 1) (drop i spots)

pub differing_starts : (handed : Handed) (document : Nodes) (signature : Path) (spots : List Spot) → Differing handed document signature spots 0
differing_starts handed document signature spots = record { rest = refl }

step : (handed : Handed) (document : Nodes) (signature : Path) (spots : List Spot) (i : ℕ) (spot : Spot) (found : Option Code) → slice_get spots i ≡ Some spot
    → digest_code handed document signature (i + 1) spot ≡ found
    → first_differing handed document signature (i + 1) (drop i spots) ≡ or_else found (first_differing handed document signature (i + 1 + 1) (drop (i + 1) spots))
step handed document signature spots i spot found e f =
    ap (first_differing handed document signature (i + 1)) (drop_get spots i spot e)
    ∙ ap (λ c. or_else c (first_differing handed document signature (suc (i + 1)) (drop (suc i) spots))) f
    ∙ ap (λ k. or_else found (first_differing handed document signature k (drop (suc i) spots))) (sym (add-one (i + 1)))
    ∙ ap (λ k. or_else found (first_differing handed document signature (i + 1 + 1) (drop k spots))) (sym (add-one i))

-- the Reference behind what is told of it
spot_of_found : (f : Spot → Option Code) (o : Option Spot) (found : Option Code) → option_map f o ≡ Some found → (spot : Spot) × (o ≡ Some spot) × (f spot ≡ found)
spot_of_found f None found e = absurd (none-some found e)
spot_of_found f (Some spot) found e = (spot, refl, same_Some (f spot) found e)

at_place : (handed : Handed) (document : Nodes) (signature : Path) (spots : List Spot) (i : ℕ) (found : Option Code)
    → option_map (digest_code handed document signature (i + 1)) (slice_get spots (i + 1 - 1)) ≡ Some found
    → first_differing handed document signature (i + 1) (drop i spots) ≡ or_else found (first_differing handed document signature (i + 1 + 1) (drop (i + 1) spots))
at_place handed document signature spots i found e =
    let same : i + 1 - 1 ≡ i = omega arith in
    let s = spot_of_found (digest_code handed document signature (i + 1)) (slice_get spots (i + 1 - 1)) found e in
    step handed document signature spots i s.0 found (ap (slice_get spots) (sym same) ∙ s.1) s.2

pub differing_on : (handed : Handed) (document : Nodes) (signature : Path) (spots : List Spot) (i : ℕ) (found : Option Code)
    → option_map (digest_code handed document signature (i + 1)) (slice_get spots (i + 1 - 1)) ≡ Some found → found ≡ None
    → Differing handed document signature spots i → Differing handed document signature spots (i + 1)
differing_on handed document signature spots i found e none h =
    record {
      rest = h.rest ∙ at_place handed document signature spots i found e
          ∙ ap (λ o. or_else o (first_differing handed document signature (i + 1 + 1) (drop (i + 1) spots))) none;
    }

pub differing_found : (handed : Handed) (document : Nodes) (signature : Path) (spots : List Spot) (i : ℕ) (found : Option Code) (code : Code)
    → option_map (digest_code handed document signature (i + 1)) (slice_get spots (i + 1 - 1)) ≡ Some found → found ≡ Some code
    → Differing handed document signature spots i → first_differing handed document signature 1 spots ≡ found
differing_found handed document signature spots i found code e some h =
    h.rest ∙ at_place handed document signature spots i found e
    ∙ ap (λ o. or_else o (first_differing handed document signature (i + 1 + 1) (drop (i + 1) spots))) some ∙ sym some

pub differing_ends : (handed : Handed) (document : Nodes) (signature : Path) (spots : List Spot) (i : ℕ) → length spots ≤ i → Differing handed document signature spots i
    → first_differing handed document signature 1 spots ≡ None
differing_ends handed document signature spots i past h = h.rest ∙ ap (first_differing handed document signature (i + 1)) (drop_all i spots past)
