-- The law that a signature is free again, for items.
use Rattle.std.proofs.Common.{◌≡◌, false, List, [], ◌∷◌, refl, subst, inl, inr, codes}
use Rattle.document_model.specs.Names.{Expanded}
use Rattle.document_model.specs.Tree.{Nodes, put_last}
use Rattle.document_model.specs.Insertion.{HasNoIdentifiers}
use Rattle.signature_model.specs.Vocabulary.{ds, xades}
use Rattle.signature_model.specs.Spots.{Spot, called_in, first, paths}
use Rattle.signature_model.specs.Parts.{references, value, host, is_signed, qualifying, qualifying_objects, unsigned}
use Rattle.signature_model.specs.Covers.{IsFree}
use Rattle.signature_model.specs.Fragments.{Item, Value, Stamp, Data, Archive, content_of, put_nodes}
use Rattle.signature_model.specs.Keeping.{IsSignature, TakesItem, StaysFree}
use Rattle.signature_model.proofs.Standing.{Each}
use Rattle.signature_model.proofs.Lists.{each_first}
use Rattle.signature_model.proofs.Apart.{IsNamed, called_named}
use Rattle.signature_model.proofs.References.{IsOther}
use Rattle.signature_model.proofs.Covered.{Setting, free_at_host}
use Rattle.signature_model.proofs.ValueKept.{places_first, free_at_value}
use Rattle.signature_model.proofs.Hosts.{pick, InnerNamed, at_place, list_inner, unsigned_inner, qualifying_inner}
use Rattle.signature_model.proofs.ItemKept.{put_at}
use Rattle.signature_model.proofs.Plain.{content_plain}
use Rattle.signature_model.proofs.Outer.{free_with_property, free_with_value}
use Rattle.signature_model.proofs.FreeFirst.{free_in_qualifying, free_in_unsigned}

value_free : (document added : Nodes) (signature place : Spot) → IsSignature document signature → value document signature ≡ place ∷ [] → is_signed document signature ≡ false
    → IsFree document signature → HasNoIdentifiers added → IsFree (put_last added place.path document) signature
value_free document added signature place s v e free n =
    let P : List Spot → Type 0 = λ spots. Each (IsNamed document (ds (codes "SignatureValue"))) spots in
    let named : P (place ∷ []) = subst P v (each_first (IsNamed document (ds (codes "SignatureValue"))) _ (called_named document (ds (codes "SignatureValue")) signature s.stands)) in
    let p = places_first document signature place v e in
    let setting : Setting document added signature place (ds (codes "SignatureValue")) = record {
      signature_named = record { stands = s.stands; named = s.named };
      place_named = named.0;
      other = record { signature = refl; signed_info = refl; method = refl; reference = refl; transforms = refl; transform = refl };
      no_identifiers = n;
      unreached = free_at_value document signature place p 1 (references document signature) free;
    } in
    free_with_value document added signature place setting p v free

setting_at : (document added : Nodes) (signature place : Spot) (host_name : Expanded) → IsSignature document signature → IsOther host_name
    → InnerNamed document signature host_name place → host document signature ≡ place ∷ [] → IsFree document signature → HasNoIdentifiers added
    → Setting document added signature place host_name
setting_at document added signature place host_name s other i e free n = record {
  signature_named = record { stands = s.stands; named = s.named };
  place_named = i.0;
  other = other;
  no_identifiers = n;
  unreached = free_at_host document signature place e free;
}

property_free : (document added : Nodes) (signature place : Spot) → IsSignature document signature → host document signature ≡ place ∷ []
    → IsFree document signature → HasNoIdentifiers added → IsFree (put_last added place.path document) signature
property_free document added signature place s e free n =
    elim (pick (called_in document (xades (codes "UnsignedSignatureProperties")) (unsigned document signature))
    (called_in document (xades (codes "UnsignedProperties")) (qualifying document signature))
    (called_in document (xades (codes "QualifyingProperties")) (first (qualifying_objects document signature))) place e) [
      | inl l ↦ free_with_property document added signature place
          (setting_at document added signature place (xades (codes "UnsignedSignatureProperties")) s
          (record { signature = refl; signed_info = refl; method = refl; reference = refl; transforms = refl; transform = refl })
          (at_place document signature place (xades (codes "UnsignedSignatureProperties")) _ (list_inner document signature s.stands) l) e free n) free
      | inr r ↦ elim r [
        | inl u ↦ free_in_unsigned document added signature place
            (setting_at document added signature place (xades (codes "UnsignedProperties")) s
            (record { signature = refl; signed_info = refl; method = refl; reference = refl; transforms = refl; transform = refl })
            (at_place document signature place (xades (codes "UnsignedProperties")) _ (unsigned_inner document signature s.stands) u.1) e free n) u.1 u.0 e free
        | inr q ↦ free_in_qualifying document added signature place
            (setting_at document added signature place (xades (codes "QualifyingProperties")) s
            (record { signature = refl; signed_info = refl; method = refl; reference = refl; transforms = refl; transform = refl })
            (at_place document signature place (xades (codes "QualifyingProperties")) _ (qualifying_inner document signature s.stands) q.2) e free n) q.2 q.1 e free
      ]
    ]

property_item_free : (document : Nodes) (signature : Spot) (item : Item) → TakesItem document signature item
    → IsFree (put_nodes (content_of document signature item) (paths (host document signature)) document) signature
property_item_free document signature item t =
    let P : Nodes → Type 0 = λ new. IsFree new signature in
    subst P (put_at document (content_of document signature item) (host document signature) t.property_place.0 t.property_place.1)
    (property_free document (content_of document signature item) signature t.property_place.0 t.is_signature t.property_place.1 t.free (content_plain document signature item))

pub stays_free : StaysFree
stays_free document signature (Value octets) t =
    let P : Nodes → Type 0 = λ new. IsFree new signature in
    subst P (put_at document (content_of document signature (Value octets)) (value document signature) t.value_place.0 t.value_place.1)
    (value_free document (content_of document signature (Value octets)) signature t.value_place.0 t.is_signature t.value_place.1 t.may t.free
    (content_plain document signature (Value octets)))
stays_free document signature (Stamp token) t = property_item_free document signature (Stamp token) t
stays_free document signature (Data certificates lists) t = property_item_free document signature (Data certificates lists) t
stays_free document signature (Archive token) t = property_item_free document signature (Archive token) t
