-- What a signature without a fault in its shape has.
use Rattle.std.proofs.Common.{◌≡◌, Bool, true, false, cond, not, ◌||◌, List, [], ◌∷◌, ◌++◌, Option, Some, None, refl, sym, ◌∙◌, ap, subst, codes}
use Rattle.std.proofs.lemmas.Bool.{not-false, not-true}
use Rattle.std.proofs.lemmas.Option.{none-some}
use Rattle.std.specs.Prelude.{drop, filter, flat_map, is_none, option_map, IsSome}
use Rattle.std.specs.List.{list_any}
use Rattle.document_model.specs.Characters.{is_empty}
use Rattle.document_model.specs.Names.{Expanded}
use Rattle.document_model.specs.Tree.{Nodes, Path}
use Rattle.doc_spans.specs.declared.documents.Doc.{Doc}
use Rattle.doc_spans.specs.declared.documents.NodeId.{NodeId}
use Rattle.signature_elements.specs.Standing.{spot_or_none}
use Rattle.signature_model.specs.Vocabulary.{ds, xades, DigestKind}
use Rattle.signature_model.specs.Spots.{Spot, is_called, attribute, called, called_in, elements_in, first, paths}
use Rattle.signature_model.specs.Parts.{signed_info, value, key_info, method, host, objects, is_qualifying, qualifying_objects, qualifying, unsigned, unsigned_signature, signed_properties, signed_signature_properties, signing_certificate_property, signing_time, certificate_digest, digest_methods, digest_values, digest_kind, stamps, token_elements}
use Rattle.signature_model.specs.Holding.{Slot, one, at_most_one, any_number, one_or_more, lacks_one, first_misfit, misfits, lacking, further, not_one, without_attribute, with_stray_text, without_octets, without_text, without_value}
use Rattle.signature_model.specs.Shape.{or_first, points_to, id_of, shape_faults, is_in_stamp}
use Rattle.signature_model.proofs.Lists.{not_both, neither}
use Rattle.signature_model.proofs.ShapeLines.{Lines, not_nothing, front_nothing, behind_nothing, map_nothing, none_first, lines_of}
use Rattle.qualifying_props.specs.Nodes.{IsShaped}
use Rattle.qualifying_props.specs.PartsOf.{cert_method}

-- Lists.

-- a condition under which something would stand there doesn't hold
no_branch : {A : Type 0} (b : Bool) (x : A) (xs others : List A) → cond b (x ∷ xs) others ≡ [] → b ≡ false
no_branch true x xs others e = absurd (not_nothing x xs e)
no_branch false x xs others e = refl

-- a list has one element
pub record HasOne (spots : List Spot) : Type 0 where
  pub spot : Spot
  pub is : spots ≡ spot ∷ []

first_of : (spots : List Spot) → is_empty spots ≡ false → HasOne (first spots)
first_of [] e = absurd (not_both e)
first_of (spot ∷ spots) e = record { spot = spot; is = refl }

any_kept : (p : Spot → Bool) (spots : List Spot) → list_any p spots ≡ true → is_empty (filter p spots) ≡ false
any_kept p [] e = absurd (not_both (sym e))
any_kept p (spot ∷ spots) e = by_test (p spot) (any_kept p spots) e
  where
    by_test : (b : Bool) → (list_any p spots ≡ true → is_empty (filter p spots) ≡ false) → (b || list_any p spots) ≡ true
        → is_empty (cond b (spot ∷ filter p spots) (filter p spots)) ≡ false
    by_test true more e' = refl
    by_test false more e' = more e'

-- The lines.

lines : (document : Nodes) (signature : Spot) → IsShaped document signature → Lines document signature
lines document signature h = lines_of document signature (none_first (shape_faults document signature) h.none)

-- Children in slots.

has_child : (document : Nodes) (name : Expanded) (holder : Spot) → not (list_any (is_called name) (elements_in document holder)) ≡ false
    → HasOne (first (called document name holder))
has_child document name holder e =
    first_of (called document name holder) (any_kept (is_called name) (elements_in document holder) (not-false (list_any (is_called name) (elements_in document holder)) e))

slots_full : (document : Nodes) (slots : List Slot) (holder : Spot) → misfits document slots (holder ∷ []) ≡ [] → lacks_one slots (elements_in document holder) ≡ false
slots_full document slots holder e =
    let children : List Spot = elements_in document holder in
    no_branch (lacks_one slots children) holder.path [] (first_misfit slots children)
    (front_nothing (cond (lacks_one slots children) (holder.path ∷ []) (first_misfit slots children)) [] e)

-- the first of some required children, where the holder is there
required_child : (document : Nodes) (name : Expanded) (slots : List Slot) (holders : List Spot) → HasOne holders
    → misfits document (one name ∷ slots) holders ≡ [] → HasOne (first (called_in document name holders))
required_child document name slots holders h e =
    let M : List Spot → Type 0 = λ spots. misfits document (one name ∷ slots) spots ≡ [] in
    let full = slots_full document (one name ∷ slots) h.spot (subst M h.is e) in
    let found = has_child document name h.spot (neither _ _ full).0 in
    record { spot = found.spot; is = ap (λ spots. first (called_in document name spots)) h.is ∙ first_joined (called document name h.spot) ∙ found.is }
  where
    first_joined : (spots : List Spot) → first (spots ++ []) ≡ first spots
    first_joined [] = refl
    first_joined (spot ∷ spots) = refl

-- a child that isn't lacking
lacked_child : (document : Nodes) (name : Expanded) (holders : List Spot) → HasOne holders → lacking document name holders ≡ []
    → HasOne (first (called_in document name holders))
lacked_child document name holders h e =
    let L : List Spot → Type 0 = λ spots. lacking document name spots ≡ [] in
    let none = map_nothing (λ spot. spot.path) (cond (is_empty (called document name h.spot)) (h.spot ∷ []) []) (subst L h.is e) in
    let found = first_of (called document name h.spot) (no_branch (is_empty (called document name h.spot)) h.spot [] [] none) in
    record { spot = found.spot; is = ap (λ spots. first (called_in document name spots)) h.is ∙ first_joined (called document name h.spot) ∙ found.is }
  where
    first_joined : (spots : List Spot) → first (spots ++ []) ≡ first spots
    first_joined [] = refl
    first_joined (spot ∷ spots) = refl

-- The first level.

abbrev part_slots : List Slot
part_slots = one (ds (codes "SignedInfo")) ∷ one (ds (codes "SignatureValue")) ∷ one (ds (codes "KeyInfo")) ∷ any_number (ds (codes "Object")) ∷ []

parts_full : (document : Nodes) (signature : Spot) → IsShaped document signature → lacks_one part_slots (elements_in document signature) ≡ false
parts_full document signature h =
    slots_full document part_slots signature
    (behind_nothing (with_stray_text document (signature ∷ [])) (misfits document part_slots (signature ∷ [])) (lines document signature h).parts)

pub has_signed_info : (document : Nodes) (signature : Spot) → IsShaped document signature → HasOne (signed_info document signature)
has_signed_info document signature h =
    has_child document (ds (codes "SignedInfo")) signature (neither _ _ (parts_full document signature h)).0

pub has_value : (document : Nodes) (signature : Spot) → IsShaped document signature → HasOne (value document signature)
has_value document signature h =
    has_child document (ds (codes "SignatureValue")) signature (neither _ _ (neither _ _ (parts_full document signature h)).1).0

pub has_key_info : (document : Nodes) (signature : Spot) → IsShaped document signature → HasOne (key_info document signature)
has_key_info document signature h =
    has_child document (ds (codes "KeyInfo")) signature (neither _ _ (neither _ _ (neither _ _ (parts_full document signature h)).1).1).0

abbrev info_slots : List Slot
info_slots = one (ds (codes "SignatureMethod")) ∷ one_or_more (ds (codes "Reference")) ∷ []

pub has_method : (document : Nodes) (signature : Spot) → IsShaped document signature → HasOne (method document signature)
has_method document signature h =
    required_child document (ds (codes "CanonicalizationMethod")) info_slots (signed_info document signature) (has_signed_info document signature h)
    (behind_nothing _ (misfits document (one (ds (codes "CanonicalizationMethod")) ∷ info_slots) (signed_info document signature)) (lines document signature h).info)

-- The qualifying properties.

abbrev wrong_targets : Nodes → Spot → List Path
wrong_targets document signature =
    paths (filter (λ spot. not (points_to (attribute (codes "Target") spot) (id_of signature))) (qualifying document signature))

holders_there : (b : Bool) (objects : List Spot) (signature : Spot) → cond b (or_first objects signature) [] ≡ [] → b ≡ false
holders_there true [] signature e = absurd (not_nothing signature.path [] e)
holders_there true (object ∷ objects) signature e = absurd (not_nothing object.path [] e)
holders_there false objects signature e = refl

first_passes : (p : Spot → Bool) (spots : List Spot) (spot : Spot) → first (filter p spots) ≡ spot ∷ [] → p spot ≡ true
first_passes p [] spot e = absurd (not_nothing spot [] (sym e))
first_passes p (x ∷ spots) spot e = by_test (p x) refl (first_passes p spots spot) e
  where
    head_or : Spot → List Spot → Spot
    head_or other [] = other
    head_or other (y ∷ ys) = y

    by_test : (b : Bool) → p x ≡ b → (first (filter p spots) ≡ spot ∷ [] → p spot ≡ true) → first (cond b (x ∷ filter p spots) (filter p spots)) ≡ spot ∷ [] → p spot ≡ true
    by_test true h more e' = ap p (sym (ap (head_or x) e')) ∙ h
    by_test false h more e' = more e'

pub has_qualifying : (document : Nodes) (signature : Spot) → IsShaped document signature → HasOne (qualifying document signature)
has_qualifying document signature h =
    let name : Expanded = xades (codes "QualifyingProperties") in
    let holders : List Spot = qualifying_objects document signature in
    let to_ids = front_nothing _ (wrong_targets document signature) (lines document signature h).qualifying in
    let to_further = front_nothing _ (without_attribute (codes "Target") (qualifying document signature)) to_ids in
    let to_later = front_nothing _ (without_attribute (codes "Id") (signature ∷ [])) to_further in
    let to_none = front_nothing _ (further document name (first holders)) to_later in
    let to_first = front_nothing _ (paths (drop 1 holders)) to_none in
    let there = holders_there (is_empty holders) (objects document signature) signature (behind_nothing (with_stray_text document holders) _ to_first) in
    let object = first_of holders there in
    let passes = first_passes (is_qualifying document) (objects document signature) object.spot object.is in
    let found = first_of (called document name object.spot) (not-true (is_empty (called document name object.spot)) passes) in
    record { spot = found.spot; is = ap (λ spots. first (called_in document name spots)) object.is ∙ first_joined (called document name object.spot) ∙ found.is }
  where
    first_joined : (spots : List Spot) → first (spots ++ []) ≡ first spots
    first_joined [] = refl
    first_joined (spot ∷ spots) = refl

pub has_host : (document : Nodes) (signature : Spot) → IsShaped document signature → HasOne (host document signature)
has_host document signature h =
    let q = has_qualifying document signature h in
    first_of (unsigned_signature document signature ++ unsigned document signature ++ qualifying document signature)
    (ap (λ spots. is_empty (unsigned_signature document signature ++ unsigned document signature ++ spots)) q.is
    ∙ last_there (unsigned_signature document signature ++ unsigned document signature) q.spot)
  where
    last_there : (spots : List Spot) (spot : Spot) → is_empty (spots ++ spot ∷ []) ≡ false
    last_there [] spot = refl
    last_there (x ∷ spots) spot = refl

-- The token of each time-stamp.

pub no_stamp_lacks : (document : Nodes) (signature : Spot) → IsShaped document signature
    → filter (λ stamp. is_empty (token_elements document stamp)) (stamps document signature) ≡ []
no_stamp_lacks document signature h =
    let holders : List Spot = stamps document signature in
    let to_others = front_nothing _ (without_value document (flat_map (λ holder. first (token_elements document holder)) holders)) (lines document signature h).stamp in
    let to_tokens = front_nothing _ (paths (filter (λ child. not (is_in_stamp child)) (flat_map (elements_in document) holders))) to_others in
    let tokens = behind_nothing (with_stray_text document holders ++ further document (ds (codes "CanonicalizationMethod")) holders) _ to_tokens in
    map_nothing (λ spot. spot.path) (filter (λ stamp. is_empty (token_elements document stamp)) holders)
    (front_nothing (lacking document (xades (codes "EncapsulatedTimeStamp")) holders) (further document (xades (codes "EncapsulatedTimeStamp")) holders) tokens)

-- The digest of the first Cert.

has_signed_properties : (document : Nodes) (signature : Spot) → IsShaped document signature → HasOne (signed_properties document signature)
has_signed_properties document signature h =
    let slots : List Slot = at_most_one (xades (codes "UnsignedProperties")) ∷ [] in
    let to_ids = front_nothing _ (misfits document (at_most_one (xades (codes "UnsignedSignatureProperties")) ∷ []) (unsigned document signature)) (lines document signature h).properties in
    let to_slots = front_nothing _ (without_attribute (codes "Id") (signed_properties document signature)) to_ids in
    required_child document (xades (codes "SignedProperties")) slots (qualifying document signature) (has_qualifying document signature h)
    (behind_nothing _ (misfits document (one (xades (codes "SignedProperties")) ∷ slots) (qualifying document signature)) to_slots)

record HasDigest (document : Nodes) (signature : Spot) : Type 0 where
  methods : HasOne (cert_method document signature)
  named : is_none (digest_kind (methods.spot ∷ [])) ≡ false

has_digest : (document : Nodes) (signature : Spot) → IsShaped document signature → HasDigest document signature
has_digest document signature h =
    let holders : List Spot = signed_signature_properties document signature in
    let property : List Spot = signing_certificate_property document signature in
    let cert : List Spot = first (called_in document (xades (codes "Cert")) property) in
    let digest : List Spot = certificate_digest document signature in
    let unnamed : List Path = paths (filter (λ spot. is_none (digest_kind (spot ∷ []))) (digest_methods document digest)) in
    let to_values = front_nothing _ (without_octets document (digest_values document digest)) (lines document signature h).signed in
    let to_names = front_nothing _ (lacking document (ds (codes "DigestValue")) digest) to_values in
    let to_methods = front_nothing _ unnamed to_names in
    let to_digest = front_nothing _ (lacking document (ds (codes "DigestMethod")) digest) to_methods in
    let to_cert = front_nothing _ (lacking document (xades (codes "CertDigest")) cert) to_digest in
    let to_property = front_nothing _ (lacking document (xades (codes "Cert")) property) to_cert in
    let to_text = front_nothing _ (not_one document (xades (codes "SigningCertificateV2")) holders) to_property in
    let to_time = front_nothing _ (without_text document (signing_time document signature)) to_text in
    let to_holders = front_nothing _ (not_one document (xades (codes "SigningTime")) holders) to_time in
    let one_holder = behind_nothing _ (not_one document (xades (codes "SignedSignatureProperties")) (signed_properties document signature)) to_holders in
    let one_property = behind_nothing _ (not_one document (xades (codes "SigningCertificateV2")) holders) to_property in
    let has_holder = lacked_child document (xades (codes "SignedSignatureProperties")) (signed_properties document signature) (has_signed_properties document signature h)
    (front_nothing (lacking document (xades (codes "SignedSignatureProperties")) (signed_properties document signature)) _ one_holder) in
    let has_property = lacked_child document (xades (codes "SigningCertificateV2")) holders has_holder
    (front_nothing (lacking document (xades (codes "SigningCertificateV2")) holders) _ one_property) in
    let has_cert = lacked_child document (xades (codes "Cert")) property has_property (behind_nothing _ (lacking document (xades (codes "Cert")) property) to_cert) in
    let has_cert_digest = lacked_child document (xades (codes "CertDigest")) cert has_cert (behind_nothing _ (lacking document (xades (codes "CertDigest")) cert) to_digest) in
    let has_method = lacked_child document (ds (codes "DigestMethod")) digest has_cert_digest (behind_nothing _ (lacking document (ds (codes "DigestMethod")) digest) to_methods) in
    let U : List Spot → Type 0 = λ spots. filter (λ spot. is_none (digest_kind (spot ∷ []))) spots ≡ [] in
    let named = subst U has_method.is (map_nothing (λ spot. spot.path) (filter (λ spot. is_none (digest_kind (spot ∷ []))) (digest_methods document digest)) (behind_nothing _ unnamed to_names)) in
    record { methods = has_method; named = no_branch (is_none (digest_kind (has_method.spot ∷ []))) has_method.spot [] [] named }

pub has_cert_method : (document : Nodes) (signature : Spot) → IsShaped document signature → HasOne (cert_method document signature)
has_cert_method document signature h = (has_digest document signature h).methods

some_of : {A : Type 0} (o : Option A) → is_none o ≡ false → (x : A) × (o ≡ Some x)
some_of None e = absurd (not_both e)
some_of (Some x) e = (x, refl)

pub has_digest_kind : (document : Nodes) (signature : Spot) → IsShaped document signature → (kind : DigestKind) × (digest_kind (cert_method document signature) ≡ Some kind)
has_digest_kind document signature h =
    let d = has_digest document signature h in
    let k = some_of (digest_kind (d.methods.spot ∷ [])) d.named in
    (k.0, ap digest_kind d.methods.is ∙ k.1)

-- A part that is there.

pub part_there : (doc : Doc) (spots : List Spot) (part : Option NodeId) → HasOne spots → spot_or_none doc part ≡ spots → IsSome part
part_there doc spots None h e = absurd (not_nothing h.spot [] (sym (e ∙ h.is)))
part_there doc spots (Some node) h e = refl

pub map_there : {A B : Type 0} (f : A → B) (o : Option A) (y : B) → option_map f o ≡ Some y → IsSome o
map_there f None y e = absurd (none-some y e)
map_there f (Some x) y e = refl
