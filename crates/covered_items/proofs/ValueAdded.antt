-- What a value adds to what a signature covers.
use Rattle.std.proofs.Common.{◌≡◌, ℕ, true, false, cond, not, ◌||◌, List, [], ◌∷◌, ◌++◌, refl, sym, ◌∙◌, ap, subst, codes}
use Rattle.std.proofs.lemmas.List.{append-nil}
use Rattle.std.specs.Prelude.{unwrap_or}
use Rattle.std.specs.List.{list_any}
use Rattle.base64.specs.GeneralPurpose.{IsBytes, encode_of}
use Rattle.base64.specs.Engines.{standard}
use Rattle.document_model.specs.Characters.{is_empty}
use Rattle.document_model.specs.Tree.{Nodes, put_last}
use Rattle.document_model.specs.NodeSets.{is_within}
use Rattle.signature_model.specs.Vocabulary.{ds}
use Rattle.signature_model.specs.Spots.{Spot}
use Rattle.signature_model.specs.Parts.{value, signed_info, method, host, references, properties, is_blank, is_signed, octets_or_none, plain_form, form_or}
use Rattle.signature_model.specs.Parts as parts
use Rattle.signature_model.specs.Chains.{Handed}
use Rattle.signature_model.specs.Octets.{joined_octets, value_octets}
use Rattle.signature_model.specs.Covers.{Entry, Signed, digested, stamped, covers}
use Rattle.signature_model.specs.Fragments.{Value, with_item, encoded, content_of}
use Rattle.signature_model.specs.Keeping.{TakesItem}
use Rattle.signature_model.proofs.Standing.{Each}
use Rattle.signature_model.proofs.Lists.{each_first, each_map, not_within_other}
use Rattle.signature_model.proofs.Apart.{other_path}
use Rattle.signature_model.proofs.Covered.{Setting, all_digested_stay}
use Rattle.signature_model.proofs.PropertyKept.{IsPart, parts_called, Beside, joined_stay, form_or_stays}
use Rattle.signature_model.proofs.ItemKept.{put_at}
use Rattle.covered_items.specs.Entries.{entries_of}
use Rattle.signature_model.proofs.PartsStay.{info_stays, method_stays, method_apart}
use Rattle.covered_items.proofs.Base64ReadBack.{spelled_more}
use Rattle.covered_items.proofs.NewValue as value_in

module _ (document : Nodes) (signature place : Spot) (octets : List ℕ) (bytes : IsBytes octets) (some : octets ≡ [] → ⊥) (takes : TakesItem document signature (Value octets))
    (is_place : value document signature ≡ place ∷ []) where
  abbrev added : Nodes
  added = encoded octets

  abbrev new : Nodes
  new = put_last added place.path document

  set : Setting document added signature place (ds (codes "SignatureValue"))
  set = value_in.set document signature place octets bytes takes is_place

  spelled_some : encode_of standard octets ≡ [] → ⊥
  spelled_some e = spelled_more octets some e

  bytes_new : parts.value_octets new signature ≡ octets
  bytes_new = ap (octets_or_none new) (value_in.value_new document signature place octets bytes takes is_place) ∙ ap (λ o. unwrap_or o []) (value_in.octets_new document signature place octets bytes takes is_place)

  signed_new : is_signed new signature ≡ true
  signed_new =
      ap (list_any (λ spot. not (is_blank new spot))) (value_in.value_new document signature place octets bytes takes is_place) ∙ ap (λ cs. not (is_empty cs) || false) (value_in.text_new document signature place octets bytes takes is_place) ∙ full (encode_of standard octets) spelled_some
    where
      full : (cs : List ℕ) → (cs ≡ [] → ⊥) → (not (is_empty cs) || false) ≡ true
      full [] h = absurd (h refl)
      full (c ∷ cs) h = refl

  -- SignedInfo.

  info_beside : Each (Beside document place) (signed_info document signature)
  info_beside =
      each_first (Beside document place) _
      (each_map (IsPart document signature (ds (codes "SignedInfo"))) (Beside document place) _
      (λ spot c.
      let place_part = value_in.place_part document signature place octets bytes takes is_place in
      let k : ℕ = c.0.number.0 in
      let i : ℕ = place_part.0.number.0 in
      let differ : k ≡ i → ⊥ = λ e. other_path document spot place c.0.stands place_part.0.stands (ds (codes "SignedInfo")) (ds (codes "SignatureValue")) c.1 place_part.1 refl
      (c.0.number.1 ∙ ap (λ j. signature.path ++ j ∷ []) e ∙ sym place_part.0.number.1) in
      record {
        stands = c.0.stands;
        beside = (λ j. is_within (c.0.number.1 j) (place_part.0.number.1 j)) ∙ not_within_other signature.path k i [] differ;
      })
      (parts_called document signature (ds (codes "SignedInfo")) takes.is_signature.stands))

  octets_new : value_octets new signature ≡ value_octets document signature
  octets_new =
      let infos = info_stays document added signature place (ds (codes "SignatureValue")) set in
      let methods = method_stays document added signature place (ds (codes "SignatureValue")) set in
      (λ i. joined_octets (form_or plain_form new (methods i)) new (infos i))
      ∙ ap (λ form. joined_octets form new (signed_info document signature)) (form_or_stays plain_form document added place (method document signature)
      (method_apart document added signature place (ds (codes "SignatureValue")) set))
      ∙ joined_stay (form_or plain_form document (method document signature)) document added place set.place_named.stands (signed_info document signature) info_beside

  pub value_adds : (handed : Handed) → covers handed new signature ≡ covers handed document signature ++ Signed octets (value_octets document signature) ∷ stamped handed new signature [] (properties new signature)
  value_adds handed =
      let front : List Entry = digested handed document signature.path 1 (references document signature) in
      let old : covers handed document signature ≡ front =
      ap (λ b. front ++ cond b (Signed (parts.value_octets document signature) (value_octets document signature) ∷ stamped handed document signature [] (properties document signature)) []) takes.may
      ∙ append-nil front in
      let fronts = all_digested_stay handed document added signature place (ds (codes "SignatureValue")) set in
      let rest : List Entry = stamped handed new signature [] (properties new signature) in
      (λ i. fronts i ++ cond (signed_new i) (Signed (bytes_new i) (octets_new i) ∷ rest) [])
      ∙ ap (λ entries. entries ++ Signed octets (value_octets document signature) ∷ rest) (sym old)

pub value_covers : (handed : Handed) (document : Nodes) (signature : Spot) (octets : List ℕ) → IsBytes octets → (octets ≡ [] → ⊥) → TakesItem document signature (Value octets)
    → covers handed (with_item document signature (Value octets)) signature ≡ covers handed document signature ++ entries_of handed document signature (Value octets)
value_covers handed document signature octets bytes some takes =
    let place : Spot = takes.value_place.0 in
    let P : Nodes → Type 0 = λ new. covers handed new signature ≡ covers handed document signature ++ Signed octets (value_octets document signature) ∷ stamped handed new signature [] (properties new signature) in
    subst P (put_at document (content_of document signature (Value octets)) (value document signature) place takes.value_place.1)
    (value_adds document signature place octets bytes some takes takes.value_place.1 handed)
