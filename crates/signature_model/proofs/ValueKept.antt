-- The law for the value: what the References cover stays.
use Rattle.std.proofs.Common.{◌≡◌, ℕ, suc, Bool, true, false, cond, not, List, [], ◌∷◌, ◌++◌, None, refl, sym, ◌∙◌, ap, subst, codes}
use Rattle.std.proofs.lemmas.List.{append-nil}
use Rattle.std.specs.Prelude.{filter}
use Rattle.std.specs.List.{list_any}
use Rattle.document_model.specs.Tree.{Nodes, put_last}
use Rattle.signature_model.specs.Vocabulary.{ds}
use Rattle.signature_model.specs.Spots.{Spot}
use Rattle.signature_model.specs.Parts.{value, host, references, properties, is_blank, is_signed}
use Rattle.signature_model.specs.Parts as parts
use Rattle.signature_model.specs.Chains.{Handed}
use Rattle.signature_model.specs.Octets.{value_octets}
use Rattle.signature_model.specs.Covers.{Entry, Signed, digested, stamped, covers, places, is_reached, covers_place, first_covering}
use Rattle.signature_model.specs.Keeping.{ValueKeepsCovers}
use Rattle.signature_model.proofs.Standing.{Each}
use Rattle.signature_model.proofs.Lists.{not_both, neither, each_first}
use Rattle.signature_model.proofs.Apart.{IsNamed, called_named}
use Rattle.signature_model.proofs.Covered.{Setting, all_digested_stay, cond_none}

not_false : (b : Bool) → not b ≡ false → b ≡ true
not_false true e = refl
not_false false e = absurd (not_both e)

pub blank_place : (document : Nodes) (signature place : Spot) → value document signature ≡ place ∷ [] → is_signed document signature ≡ false → is_blank document place ≡ true
blank_place document signature place v e =
    not_false (is_blank document place) (neither (not (is_blank document place)) false (ap (list_any (λ spot. not (is_blank document spot))) (sym v) ∙ e)).0

pub places_first : (document : Nodes) (signature place : Spot) → value document signature ≡ place ∷ [] → is_signed document signature ≡ false
    → places document signature ≡ place ∷ host document signature
places_first document signature place v e =
    ap (λ spots. filter (is_blank document) spots ++ host document signature) v
    ∙ ap (λ b. cond b (place ∷ []) [] ++ host document signature) (blank_place document signature place v e)

pub free_at_value : (document : Nodes) (signature place : Spot) → places document signature ≡ place ∷ host document signature → (k : ℕ) (list : List Spot)
    → first_covering document signature k list ≡ None → Each (λ reference. is_reached document signature.path place reference ≡ false) list
free_at_value document signature place p k [] e = tt
free_at_value document signature place p k (reference ∷ list) e =
    let here = cond_none (covers_place document signature reference) k _ e in (
      (neither (is_reached document signature.path place reference) _ (ap (list_any (λ spot. is_reached document signature.path spot reference)) (sym p) ∙ here.0)).0,
      free_at_value document signature place p (suc k) list here.1,
    )

abbrev rest_of : Handed → Nodes → Spot → List Entry
rest_of handed document signature =
    Signed (parts.value_octets document signature) (value_octets document signature) ∷ stamped handed document signature [] (properties document signature)

abbrev behind : Handed → Nodes → Spot → List Entry
behind handed document signature = cond (is_signed document signature) (rest_of handed document signature) []

pub value_keeps_covers : ValueKeepsCovers
value_keeps_covers handed document added signature place s v e free n =
    let new : Nodes = put_last added place.path document in
    let P : List Spot → Type 0 = λ spots. Each (IsNamed document (ds (codes "SignatureValue"))) spots in
    let named : P (place ∷ []) = subst P v (each_first (IsNamed document (ds (codes "SignatureValue"))) _ (called_named document (ds (codes "SignatureValue")) signature s.stands)) in
    let setting : Setting document added signature place (ds (codes "SignatureValue")) = record {
      signature_named = record { stands = s.stands; named = s.named };
      place_named = named.0;
      other = record { signature = refl; signed_info = refl; method = refl; reference = refl; transforms = refl; transform = refl };
      no_identifiers = n;
      unreached = free_at_value document signature place (places_first document signature place v e) 1 (references document signature) free;
    } in
    let old_covers : covers handed document signature ≡ digested handed document signature.path 1 (references document signature) =
    ap (λ b. digested handed document signature.path 1 (references document signature) ++ cond b (rest_of handed document signature) []) e
    ∙ append-nil (digested handed document signature.path 1 (references document signature)) in (
      behind handed new signature,
      ap (λ list. list ++ behind handed new signature) (all_digested_stay handed document added signature place (ds (codes "SignatureValue")) setting ∙ sym old_covers),
    )
