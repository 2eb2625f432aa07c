-- What a signature shows once it has taken an archive time-stamp.
use Rattle.std.proofs.Common.{◌≡◌, ℕ, suc, ◌+◌, ◌<◌, true, cond, List, [], ◌∷◌, ◌++◌, length, arith, refl, sym, ◌∙◌, ap, subst, codes, append_assoc}
use Rattle.std.proofs.lemmas.List.{append-nil}
use Rattle.std.proofs.lemmas.Grind.{flat_map-append}
use Rattle.std.specs.Prelude.{map, flat_map}
use Rattle.algorithms.specs.Digests.{digest_of}
use Rattle.document_model.specs.Names.{Expanded}
use Rattle.document_model.specs.Tree.{Nodes, put_last}
use Rattle.signature_model.specs.Vocabulary.{ds}
use Rattle.signature_model.specs.Spots.{Spot}
use Rattle.signature_model.specs.Parts as parts
use Rattle.signature_model.specs.Parts.{PropertyKind, SignatureStamp, ArchiveStamp, Material, Passed, host, has_digest, kind_of}
use Rattle.signature_model.specs.Chains.{Handed}
use Rattle.signature_model.specs.Octets.{next_octets}
use Rattle.signature_model.specs.Fragments.{Archive, content_of}
use Rattle.signature_model.proofs.Standing.{Each}
use Rattle.signature_model.proofs.Lists.{each_append, flat_same}
use Rattle.signature_model.proofs.References.{references_stay, reference_stays}
use Rattle.signature_model.proofs.Covered.{Unreached, unreached_references, signature_apart}
use Rattle.signature_model.proofs.PropertyKept.{Beside, IsHeld, held_beside, token_stays, octets_at_stay, value_bytes_stay, signed_octets_stay}
use Rattle.signature_model.proofs.ItemKept.{put_at}
use Rattle.signature_model.proofs.Plain.{content_plain}
use Rattle.signature_model.specs.Parts.{plain_form}
use Rattle.covered_items.proofs.NewElements.{spot_below}
use Rattle.covered_items.proofs.StampsAdded.{NewStamp, octets_are_next, new_archive}
use Rattle.covered_items.proofs.SignedPartsStay.{signature_method_stays, key_octets_stay, cert_stays, methods_stay, values_stay, signing_certificate_stays}
use Rattle.qualifying_props.specs.Digests.{digest}
use Rattle.signature_objects.specs.Objects.{Object, Octets, Value, Certificate, has, with_objects, octets_from, numbers_below}
use Rattle.signature_objects.specs.Held.{objects_of_token, material_in, objects_in, objects_in_front, objects_to, objects, covers_of}
use Rattle.signature_evidence.specs.Evidence.{Stamped, stamp_of, stamps_from, stamps, kind_named, uri_in, reference_digests, computed_digests, evidence_of}
use Rattle.signature_evidence.specs.Renewal.{with_archive}
use Rattle.signature_evidence.proofs.Numbers.{with_both, stays_with}
use Rattle.signature_evidence.proofs.InRange.{reference_had}
use Rattle.renewed_documents.specs.Growing.{ArchiveIsShown}
use Rattle.renewed_documents.proofs.Inside.{objects_same}

-- The objects.

front_same : (document added : Nodes) (signature place : Spot) (kind : PropertyKind) (octets : List ℕ) → (n : NewStamp document added signature place kind octets)
    → objects_in_front (put_last added place.path document) signature ≡ objects_in_front document signature
front_same document added signature place kind octets n =
    let s = n.one.setting in
    let refs = references_stay document added place signature n.one.host_name s.setting.place_named s.setting.other (signature_apart document added signature place n.one.host_name s.setting) in
    let keys = key_octets_stay document added signature place n.one.host_name s.setting n.one.apart in
    λ i. octets_from 1 (length (refs i)) ++ Value ∷ map (λ bytes. Certificate bytes) (keys i)

objects_to_same : (document added : Nodes) (signature place : Spot) (kind : PropertyKind) (octets : List ℕ) → (n : NewStamp document added signature place kind octets)
    → (list : List Spot) → Each (IsHeld document place) list
    → objects_to (put_last added place.path document) signature list ≡ objects_to document signature list
objects_to_same document added signature place kind octets n list h =
    let front = front_same document added signature place kind octets n in
    let inside = flat_same (IsHeld document place) (objects_in (put_last added place.path document)) (objects_in document) list
    (objects_same document added signature place n.one.host_name n.one.setting) h in
    λ i. with_objects (with_objects [] (front i)) (inside i)

-- an archive time-stamp that is put in shows its token
new_objects : (document added : Nodes) (signature place : Spot) (octets : List ℕ) → (n : NewStamp document added signature place ArchiveStamp octets)
    → objects_in (put_last added place.path document) (spot_below n.one.path n.one.tags n.one.number n.name n.attributes) ≡ objects_of_token octets
new_objects document added signature place octets n =
    let new : Nodes = put_last added place.path document in
    let spot : Spot = spot_below n.one.path n.one.tags n.one.number n.name n.attributes in
    ap (λ kind. cond (parts.is_stamp_kind kind) (objects_of_token (parts.token new spot)) (material_in new spot)) n.kind_is
    ∙ ap objects_of_token n.token_is

objects_grow : (document added : Nodes) (signature place : Spot) (octets : List ℕ) → (n : NewStamp document added signature place ArchiveStamp octets)
    → objects (put_last added place.path document) signature [] ≡ with_objects (objects document signature []) (objects_of_token octets)
objects_grow document added signature place octets n =
    let new : Nodes = put_last added place.path document in
    let spot : Spot = spot_below n.one.path n.one.tags n.one.number n.name n.attributes in
    let old : List Spot = parts.properties document signature in
    let front : List Object = with_objects [] (objects_in_front new signature) in
    ap (objects_to new signature) n.one.grown
    ∙ ap (with_objects front) (flat_map-append (objects_in new) old (spot ∷ []))
    ∙ with_both front (flat_map (objects_in new) old) (objects_in new spot ++ [])
    ∙ ap (λ more. with_objects (objects_to new signature old) more) (append-nil (objects_in new spot) ∙ new_objects document added signature place octets n)
    ∙ ap (λ all. with_objects all (objects_of_token octets)) (objects_to_same document added signature place ArchiveStamp octets n old n.one.held)

-- The time-stamps.

stamps_append : (handed : Handed) (document : Nodes) (signature : Spot) (before list more : List Spot)
    → stamps_from handed document signature before (list ++ more) ≡ stamps_from handed document signature before list ++ stamps_from handed document signature (before ++ list) more
stamps_append handed document signature before [] more = ap (λ b. stamps_from handed document signature b more) (sym (append-nil before))
stamps_append handed document signature before (property ∷ list) more =
    let here : List Stamped = cond (parts.is_stamp property) (stamp_of handed document signature before property ∷ []) [] in
    ap (λ all. here ++ all) (stamps_append handed document signature (before ++ property ∷ []) list more
    ∙ ap (λ b. stamps_from handed document signature (before ++ property ∷ []) list ++ stamps_from handed document signature b more) (append_assoc before (property ∷ []) list))
    ∙ sym (append_assoc here (stamps_from handed document signature (before ++ property ∷ []) list) (stamps_from handed document signature (before ++ property ∷ list) more))

stamps_same : (handed : Handed) (document added : Nodes) (signature place : Spot) (kind : PropertyKind) (octets : List ℕ) → (n : NewStamp document added signature place kind octets)
    → (before list : List Spot) → Each (IsHeld document place) before → Each (Beside document place) before → Each (IsHeld document place) list
    → stamps_from handed (put_last added place.path document) signature before list ≡ stamps_from handed document signature before list
stamps_same handed document added signature place kind octets n before [] hb b h = refl
stamps_same handed document added signature place kind octets n before (property ∷ list) hb b h =
    let s = n.one.setting in
    let tokens = token_stays document added signature place n.one.host_name s property h.0 in
    let covered = octets_at_stay handed document added signature place n.one.host_name s before b property h.0 in
    let all = objects_to_same document added signature place kind octets n before hb in
    let others = stamps_same handed document added signature place kind octets n (before ++ property ∷ []) list
    (each_append (IsHeld document place) before (property ∷ []) hb (h.0, tt))
    (each_append (Beside document place) before (property ∷ []) b (held_beside document place property h.0, tt)) h.1 in
    λ i. cond (parts.is_stamp property) (record { kind = kind_of property; token = tokens i; octets = covered i; covers = covers_of (kind_of property) (all i) } ∷ []) [] ++ others i

stamps_grow : (handed : Handed) (document added : Nodes) (signature place : Spot) (octets : List ℕ) → (n : NewStamp document added signature place ArchiveStamp octets)
    → stamps handed (put_last added place.path document) signature
    ≡ stamps handed document signature
    ++ record { kind = ArchiveStamp; token = octets; octets = next_octets ArchiveStamp handed document signature; covers = numbers_below (length (objects document signature [])) } ∷ []
stamps_grow handed document added signature place octets n =
    let new : Nodes = put_last added place.path document in
    let spot : Spot = spot_below n.one.path n.one.tags n.one.number n.name n.attributes in
    let old : List Spot = parts.properties document signature in
    let kinds = n.kind_is in
    let tokens = n.token_is in
    let next = octets_are_next handed document added signature place ArchiveStamp octets n in
    let all = objects_to_same document added signature place ArchiveStamp octets n old n.one.held in
    let last : stamps_from handed new signature old (spot ∷ [])
    ≡ record { kind = ArchiveStamp; token = octets; octets = next_octets ArchiveStamp handed document signature; covers = numbers_below (length (objects document signature [])) } ∷ [] =
    λ i. cond (parts.is_stamp_kind (kinds i)) (record { kind = kinds i; token = tokens i; octets = next i; covers = covers_of (kinds i) (all i) } ∷ []) [] ++ [] in
    ap (stamps_from handed new signature []) n.one.grown
    ∙ stamps_append handed new signature [] old (spot ∷ [])
    ∙ ap (λ xs. xs ++ stamps_from handed new signature old (spot ∷ [])) (stamps_same handed document added signature place ArchiveStamp octets n [] old tt tt n.one.held)
    ∙ ap (λ xs. stamps handed document signature ++ xs) last

-- The digests.

references_same : (handed : Handed) (document added : Nodes) (signature place : Spot) (kind : PropertyKind) (octets : List ℕ) → (n : NewStamp document added signature place kind octets)
    → (all more : List Object) (k : ℕ) (list : List Spot) → ((j : ℕ) → j < length list → has all (Octets (k + j)) ≡ true) → Each (Unreached document signature place) list
    → reference_digests handed (put_last added place.path document) signature (with_objects all more) k list ≡ reference_digests handed document signature all k list
references_same handed document added signature place kind octets n all more k [] had h = refl
references_same handed document added signature place kind octets n all more k (reference ∷ list) had h =
    let new : Nodes = put_last added place.path document in
    let s = n.one.setting in
    let name : Expanded = n.one.host_name in
    let here = stays_with all more (Octets k) (let e : k + 0 ≡ k = omega arith in subst (λ (j : ℕ). has all (Octets j) ≡ true) e (had 0 (omega arith))) in
    let methods = methods_stay document added place name (ds (codes "Reference")) s.setting.place_named s.setting.other.reference (reference ∷ []) (reference ∷ []) refl (h.0.0, tt) in
    let values = values_stay document added place name (ds (codes "Reference")) s.setting.place_named s.setting.other.reference n.one.apart (reference ∷ []) (reference ∷ []) refl (h.0.0, tt) in
    let covered = reference_stays plain_form handed document added place name s.setting.place_named s.setting.other s.setting.no_identifiers signature.path reference h.0.0 h.0.1 in
    let others = references_same handed document added signature place kind octets n all more (suc k) list
    (λ j lt. let e : k + suc j ≡ suc k + j = omega arith in subst (λ (i : ℕ). has all (Octets i) ≡ true) e (had (suc j) (omega arith))) h.1 in
    λ i. record {
      object = here i;
      kind = kind_named (methods i);
      matches = has_digest digest (parts.digest_kind (methods i)) (values i) (covered i);
    } ∷ others i

computed_same : (handed : Handed) (document added : Nodes) (signature place : Spot) (kind : PropertyKind) (octets : List ℕ) → (n : NewStamp document added signature place kind octets)
    → (list : List Spot) → Each (Unreached document signature place) list
    → computed_digests handed (put_last added place.path document) signature list ≡ computed_digests handed document signature list
computed_same handed document added signature place kind octets n [] h = refl
computed_same handed document added signature place kind octets n (reference ∷ list) h =
    let s = n.one.setting in
    let name : Expanded = n.one.host_name in
    let methods = methods_stay document added place name (ds (codes "Reference")) s.setting.place_named s.setting.other.reference (reference ∷ []) (reference ∷ []) refl (h.0.0, tt) in
    let covered = reference_stays plain_form handed document added place name s.setting.place_named s.setting.other s.setting.no_identifiers signature.path reference h.0.0 h.0.1 in
    let others = computed_same handed document added signature place kind octets n list h.1 in
    λ i. digest_of (kind_named (methods i)) (covered i) ∷ others i

-- All of it.

evidence_grows : (handed : Handed) (document added : Nodes) (signature place : Spot) (octets : List ℕ) → (n : NewStamp document added signature place ArchiveStamp octets)
    → evidence_of handed (put_last added place.path document) signature [] ≡ with_archive (evidence_of handed document signature []) octets (next_octets ArchiveStamp handed document signature)
evidence_grows handed document added signature place octets n =
    let new : Nodes = put_last added place.path document in
    let s = n.one.setting in
    let name : Expanded = n.one.host_name in
    let all = objects_grow document added signature place octets n in
    let refs = references_stay document added place signature name s.setting.place_named s.setting.other (signature_apart document added signature place name s.setting) in
    let stamps_are = stamps_grow handed document added signature place octets n in
    let references_are : reference_digests handed new signature (objects new signature []) 1 (parts.references new signature)
    ≡ reference_digests handed document signature (objects document signature []) 1 (parts.references document signature) =
    (λ i. reference_digests handed new signature (all i) 1 (refs i))
    ∙ references_same handed document added signature place ArchiveStamp octets n (objects document signature []) (objects_of_token octets) 1 (parts.references document signature)
    (reference_had document signature []) (unreached_references document added signature place name s.setting) in
    let computed_are = ap (computed_digests handed new signature) refs
    ∙ computed_same handed document added signature place ArchiveStamp octets n (parts.references document signature) (unreached_references document added signature place name s.setting) in
    let cert = cert_stays document added signature place name s.setting n.one.apart n.one.signed in
    let kinds = ap kind_named (methods_stay document added place name _ s.setting.place_named n.one.apart.cert_digest _ (parts.certificate_digest document signature) cert.same cert.named) in
    let certificates = signing_certificate_stays digest document added signature place name s.setting n.one.apart n.one.signed in
    let methods = signature_method_stays document added signature place name s.setting in
    let values = value_bytes_stay document added signature place name s in
    let signed = signed_octets_stay document added signature place name s in
    λ i. record {
      objects = all i;
      stamps = stamps_are i;
      references = references_are i;
      computed = computed_are i;
      certificate_kind = kinds i;
      certificate = certificates i;
      method = uri_in (methods i);
      value = values i;
      signed = signed i;
    }

pub archive_is_shown : ArchiveIsShown
archive_is_shown handed document signature token b t =
    let content : Nodes = content_of document signature (Archive token) in
    let place : Spot = t.property_place.0 in
    let P : Nodes → Type 0 = λ new. evidence_of handed new signature [] ≡ with_archive (evidence_of handed document signature []) token (next_octets ArchiveStamp handed document signature) in
    subst P (put_at document content (host document signature) place t.property_place.1)
    (evidence_grows handed document content signature place token
    (new_archive document content signature place token b refl t.is_signature t.property_place.1 t.free (content_plain document signature (Archive token))))
