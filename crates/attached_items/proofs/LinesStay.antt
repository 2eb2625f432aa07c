-- The lines of the shape that read neither the value nor unsigned properties stay, where content is put into the value or as a property.
use Rattle.std.proofs.Common.{◌≡◌, Bool, true, false, cond, not, ◌&&◌, List, [], ◌∷◌, ◌++◌, refl, ◌∙◌, ap, codes}
use Rattle.std.specs.Prelude.{filter, flat_map, drop, is_none}
use Rattle.std.specs.List.{list_any}
use Rattle.std.specs.Option.{option_map_or}
use Rattle.document_model.specs.Characters.{is_empty, ◌is◌}
use Rattle.document_model.specs.Names.{Expanded, same_expanded}
use Rattle.document_model.specs.Tree.{Nodes, put_last}
use Rattle.signature_model.specs.Vocabulary.{ds, xades, fragment}
use Rattle.signature_model.specs.Spots.{Spot, attribute, has_attribute, attributes_in, called_in, first, paths}
use Rattle.signature_model.specs.Parts.{value, signed_info, key_info, objects, method, signature_method, references, qualifying_objects, qualifying, signed_properties, key_data, key_certificates, signed_signature_properties, signing_time, signing_certificate_property, certificate_digest, digest_methods, digest_values, digest_kind, is_typed, uri, transform_lists, transforms, is_qualifying}
use Rattle.signature_model.specs.Holding.{one, at_most_one, any_number, one_or_more, misfits, lacking, further, not_one, without_attribute, with_stray_text, without_value, without_octets, without_text}
use Rattle.signature_model.specs.Shape.{value_line, parts_line, info_line, method_line, reference_line_of, reference_line, or_first, points_to, points_to_one, id_of, qualifying_line, is_reaching_out, covered_line, signed_line, is_identifying, wants_format, signed_data_properties, formats_for, format_faults, data_object_line_of, data_object_line, key_line}
use Rattle.signature_model.specs.Keeping.{IsSpot}
use Rattle.signature_model.proofs.Standing.{Each}
use Rattle.signature_model.proofs.Lists.{each_append, each_first, each_map, each_filter, flat_same, filter_same}
use Rattle.signature_model.proofs.Apart.{Apart, IsNamed, called_stay, called_named, all_apart, named_apart}
use Rattle.signature_model.proofs.References.{signed_info_named, references_stay, references_named, transforms_stay}
use Rattle.signature_model.proofs.Covered.{Setting, signature_apart}
use Rattle.signature_model.proofs.PropertyKept.{PropertySetting, value_stays, value_apart}
use Rattle.signature_model.proofs.Outer.{qualifying_stays}
use Rattle.covered_items.proofs.NewHolders.{IsApart}
use Rattle.covered_items.proofs.SignedPartsStay.{chain_stays, named_in, first_in, first_stays, key_info_named, signed_named, methods_stay, signature_method_stays, cert_stays}
use Rattle.signature_model.proofs.PartsStay.{info_stays, method_stays, method_apart, key_info_stays, objects_apart, qualifying_objects_stay}
use Rattle.covered_items.proofs.HoldingStays as words

-- the line on the value, where a property is put in
pub value_line_stays : (document added : Nodes) (signature place : Spot) (host_name : Expanded) → PropertySetting document added signature place host_name
    → value_line (put_last added place.path document) signature ≡ value_line document signature
value_line_stays document added signature place host_name s =
    ap (without_octets (put_last added place.path document)) (value_stays document added signature place host_name s)
    ∙ words.octets_stay document added place (value document signature) (value_apart document added signature place host_name s)

module _ (document added : Nodes) (signature place : Spot) (host_name : Expanded) (s : Setting document added signature place host_name) (a : IsApart host_name)
    (signed : signed_properties (put_last added place.path document) signature ≡ signed_properties document signature) where
  abbrev pub new : Nodes
  new = put_last added place.path document

  abbrev AllApart : List Spot → Type 0
  AllApart spots = Each (Apart document place) spots

  apart : (name : Expanded) → same_expanded name host_name ≡ false → (spots : List Spot) → Each (IsNamed document name) spots → AllApart spots
  apart name d spots e = all_apart document place name host_name s.place_named d spots e

  stands : IsSpot document signature
  stands = s.signature_named.stands

  signature_is_apart : Apart document place signature
  signature_is_apart = signature_apart document added signature place host_name s

  stray : (spots : List Spot) → AllApart spots → with_stray_text new spots ≡ with_stray_text document spots
  stray spots h = words.stray_stays document added place spots h

  pub parts_stay : parts_line new signature ≡ parts_line document signature
  parts_stay =
      let t = stray (signature ∷ []) (signature_is_apart, tt) in
      let m = words.misfits_stay document added place
      (one (ds (codes "SignedInfo")) ∷ one (ds (codes "SignatureValue")) ∷ one (ds (codes "KeyInfo")) ∷ any_number (ds (codes "Object")) ∷ []) (signature ∷ []) (signature_is_apart, tt) in
      λ i. t i ++ m i

  info_named : Each (IsNamed document (ds (codes "SignedInfo"))) (signed_info document signature)
  info_named = signed_info_named document signature stands

  info_apart : AllApart (signed_info document signature)
  info_apart = apart (ds (codes "SignedInfo")) s.other.signed_info (signed_info document signature) info_named

  signature_method_apart : AllApart (signature_method document signature)
  signature_method_apart = apart (ds (codes "SignatureMethod")) a.signature_method (signature_method document signature)
      (first_in document (ds (codes "SignatureMethod")) (ds (codes "SignedInfo")) (signed_info document signature) info_named)

  pub info_line_stays : info_line new signature ≡ info_line document signature
  info_line_stays =
      let infos = info_stays document added signature place host_name s in
      let methods = method_stays document added signature place host_name s in
      let kinds = signature_method_stays document added signature place host_name s in
      let t : with_stray_text new (signed_info new signature ++ method new signature ++ signature_method new signature)
      ≡ with_stray_text document (signed_info document signature ++ method document signature ++ signature_method document signature) =
      (λ i. with_stray_text new (infos i ++ methods i ++ kinds i))
      ∙ stray (signed_info document signature ++ method document signature ++ signature_method document signature)
      (each_append (Apart document place) (signed_info document signature ++ method document signature) (signature_method document signature)
      (each_append (Apart document place) (signed_info document signature) (method document signature) info_apart (method_apart document added signature place host_name s)) signature_method_apart) in
      let m = ap (misfits new (one (ds (codes "CanonicalizationMethod")) ∷ one (ds (codes "SignatureMethod")) ∷ one_or_more (ds (codes "Reference")) ∷ [])) infos
      ∙ words.misfits_stay document added place (one (ds (codes "CanonicalizationMethod")) ∷ one (ds (codes "SignatureMethod")) ∷ one_or_more (ds (codes "Reference")) ∷ [])
      (signed_info document signature) info_apart in
      λ i. t i ++ m i

  pub method_line_stays : method_line new signature ≡ method_line document signature
  method_line_stays = ap (without_attribute (codes "Algorithm")) (signature_method_stays document added signature place host_name s)

  -- References.

  references_same : references new signature ≡ references document signature
  references_same = references_stay document added place signature host_name s.place_named s.other signature_is_apart

  all_references : Each (IsNamed document (ds (codes "Reference"))) (references document signature)
  all_references = references_named document signature stands

  reference_apart : (reference : Spot) → IsNamed document (ds (codes "Reference")) reference → Apart document place reference
  reference_apart reference r = named_apart document place (ds (codes "Reference")) host_name s.place_named s.other.reference reference r

  reference_stays : (reference : Spot) → IsNamed document (ds (codes "Reference")) reference → reference_line_of new reference ≡ reference_line_of document reference
  reference_stays reference r =
      let h = reference_apart reference r in
      let lists = ap first (called_stay document added place (ds (codes "Transforms")) reference h) in
      let lists_apart = apart (ds (codes "Transforms")) s.other.transforms (first (transform_lists document reference))
      (each_first (IsNamed document (ds (codes "Transforms"))) _ (called_named document (ds (codes "Transforms")) reference r.stands)) in
      let digests = methods_stay document added place host_name (ds (codes "Reference")) s.place_named s.other.reference (reference ∷ []) (reference ∷ []) refl (r, tt) in
      let digests_apart = apart (ds (codes "DigestMethod")) a.digest_method (digest_methods document (reference ∷ []))
      (first_in document (ds (codes "DigestMethod")) (ds (codes "Reference")) (reference ∷ []) (r, tt)) in
      let t : with_stray_text new (reference ∷ first (transform_lists new reference) ++ digest_methods new (reference ∷ []))
      ≡ with_stray_text document (reference ∷ first (transform_lists document reference) ++ digest_methods document (reference ∷ [])) =
      (λ i. with_stray_text new (reference ∷ lists i ++ digests i))
      ∙ stray (reference ∷ first (transform_lists document reference) ++ digest_methods document (reference ∷ []))
      (h, each_append (Apart document place) (first (transform_lists document reference)) (digest_methods document (reference ∷ [])) lists_apart digests_apart) in
      let m = words.misfits_stay document added place (at_most_one (ds (codes "Transforms")) ∷ one (ds (codes "DigestMethod")) ∷ one (ds (codes "DigestValue")) ∷ []) (reference ∷ []) (h, tt) in
      let v = ap (without_octets new) (first_stays document added place host_name (ds (codes "DigestValue")) (ds (codes "Reference")) s.place_named s.other.reference (reference ∷ []) (reference ∷ []) refl (r, tt))
      ∙ words.octets_stay document added place (digest_values document (reference ∷ []))
      (apart (ds (codes "DigestValue")) a.digest_value (digest_values document (reference ∷ [])) (first_in document (ds (codes "DigestValue")) (ds (codes "Reference")) (reference ∷ []) (r, tt))) in
      λ i. t i ++ without_attribute (codes "URI") (reference ∷ []) ++ m i ++ without_attribute (codes "Algorithm") (digests i) ++ v i

  pub reference_line_stays : reference_line new signature ≡ reference_line document signature
  reference_line_stays =
      ap (flat_map (reference_line_of new)) references_same
      ∙ flat_same (IsNamed document (ds (codes "Reference"))) (reference_line_of new) (reference_line_of document) (references document signature) reference_stays all_references

  -- The qualifying properties.

  holders_same : qualifying_objects new signature ≡ qualifying_objects document signature
  holders_same = qualifying_objects_stay document added signature place host_name s a.object

  holders_apart : AllApart (qualifying_objects document signature)
  holders_apart =
      each_map (λ spot. Apart document place spot × (is_qualifying document spot ≡ true)) (Apart document place) _ (λ spot h. h.0)
      (each_filter (Apart document place) (is_qualifying document) (objects document signature) (objects_apart document added signature place host_name s a.object))

  qualifying_same : qualifying new signature ≡ qualifying document signature
  qualifying_same = qualifying_stays document added signature place host_name s a.object

  pub qualifying_line_stays : qualifying_line new signature ≡ qualifying_line document signature
  qualifying_line_stays =
      let objects_same = called_stay document added place (ds (codes "Object")) signature signature_is_apart in
      let t = ap (with_stray_text new) holders_same ∙ stray (qualifying_objects document signature) holders_apart in
      let f = ap (λ spots. further new (xades (codes "QualifyingProperties")) (first spots)) holders_same
      ∙ words.further_stay document added place (xades (codes "QualifyingProperties")) (first (qualifying_objects document signature))
      (each_first (Apart document place) (qualifying_objects document signature) holders_apart) in
      λ i. t i ++ cond (is_empty (holders_same i)) (or_first (objects_same i) signature) [] ++ paths (drop 1 (holders_same i)) ++ f i
      ++ without_attribute (codes "Id") (signature ∷ []) ++ without_attribute (codes "Target") (qualifying_same i)
      ++ paths (filter (λ spot. not (points_to (attribute (codes "Target") spot) (id_of signature))) (qualifying_same i))

  -- The signed properties are covered.

  pub covered_line_stays : covered_line new signature ≡ covered_line document signature
  covered_line_stays =
      let typed : List Spot = filter is_typed (references document signature) in
      let all_named : Each (IsNamed document (ds (codes "Reference"))) (first typed) =
      each_first (IsNamed document (ds (codes "Reference"))) typed
      (each_map (λ r. IsNamed document (ds (codes "Reference")) r × (is_typed r ≡ true)) (IsNamed document (ds (codes "Reference"))) typed (λ r h. h.0)
      (each_filter (IsNamed document (ds (codes "Reference"))) is_typed (references document signature) all_references)) in
      let t = ap (λ refs. flat_map (transforms new) (first (filter is_typed refs))) references_same
      ∙ flat_same (IsNamed document (ds (codes "Reference"))) (transforms new) (transforms document) (first typed)
      (λ r n. transforms_stay document added place r host_name s.place_named s.other (reference_apart r n)) all_named in
      λ i. cond (is_empty (filter is_typed (references_same i))) (paths (first (references_same i))) []
      ++ paths (drop 1 (filter is_typed (references_same i)))
      ++ paths (filter (λ reference. not (points_to_one (signed i) reference)) (first (filter is_typed (references_same i))))
      ++ paths (filter is_reaching_out (t i))

  -- KeyInfo and the value.

  pub key_line_stays : key_line new signature ≡ key_line document signature
  key_line_stays =
      let keys = key_info_stays document added signature place host_name s in
      let keys_named = key_info_named document signature stands in
      let keys_apart = apart (ds (codes "KeyInfo")) a.key_info (key_info document signature) keys_named in
      let data_named = named_in document (ds (codes "X509Data")) (ds (codes "KeyInfo")) (key_info document signature) keys_named in
      let data_apart = apart (ds (codes "X509Data")) a.key_data (key_data document signature) data_named in
      let data_same : key_data new signature ≡ key_data document signature = ap (called_in new (ds (codes "X509Data"))) keys
      ∙ chain_stays document added place host_name (ds (codes "X509Data")) (ds (codes "KeyInfo")) s.place_named a.key_info (key_info document signature) keys_named in
      let certs_same : key_certificates new signature ≡ key_certificates document signature = ap (called_in new (ds (codes "X509Certificate"))) data_same
      ∙ chain_stays document added place host_name (ds (codes "X509Certificate")) (ds (codes "X509Data")) s.place_named a.key_data (key_data document signature) data_named in
      let certs_apart = apart (ds (codes "X509Certificate")) a.key_certificate (key_certificates document signature)
      (named_in document (ds (codes "X509Certificate")) (ds (codes "X509Data")) (key_data document signature) data_named) in
      let t = (λ i. with_stray_text new (keys i ++ data_same i)) ∙ stray (key_info document signature ++ key_data document signature)
      (each_append (Apart document place) (key_info document signature) (key_data document signature) keys_apart data_apart) in
      let l = ap (lacking new (ds (codes "X509Data"))) keys ∙ words.lacking_stay document added place (ds (codes "X509Data")) (key_info document signature) keys_apart in
      let v = ap (without_value new) certs_same ∙ words.value_stays document added place (key_certificates document signature) certs_apart in
      λ i. t i ++ l i ++ cond (is_empty (certs_same i)) (paths (first (data_same i))) [] ++ v i

  -- The signed properties of the signature.

  sp_named : Each (IsNamed document (xades (codes "SignedProperties"))) (signed_properties document signature)
  sp_named = signed_named document signature stands

  sp_apart : AllApart (signed_properties document signature)
  sp_apart = apart (xades (codes "SignedProperties")) a.signed_properties (signed_properties document signature) sp_named

  -- the first of a name, one level further
  further_first : (x y : Expanded) → same_expanded y host_name ≡ false → (now spots : List Spot) → now ≡ spots → Each (IsNamed document y) spots
      → first (called_in new x now) ≡ first (called_in document x spots)
  further_first x y d now spots e n = first_stays document added place host_name x y s.place_named d now spots e n

  pub signed_line_stays : signed_line new signature ≡ signed_line document signature
  signed_line_stays =
      let e1 : signed_signature_properties new signature ≡ signed_signature_properties document signature =
      further_first (xades (codes "SignedSignatureProperties")) (xades (codes "SignedProperties")) a.signed_properties _ (signed_properties document signature) signed sp_named in
      let n1 = first_in document (xades (codes "SignedSignatureProperties")) (xades (codes "SignedProperties")) (signed_properties document signature) sp_named in
      let a1 = apart (xades (codes "SignedSignatureProperties")) a.signed_signature (signed_signature_properties document signature) n1 in
      let time_same : signing_time new signature ≡ signing_time document signature =
      further_first (xades (codes "SigningTime")) (xades (codes "SignedSignatureProperties")) a.signed_signature _ (signed_signature_properties document signature) e1 n1 in
      let time_apart = apart (xades (codes "SigningTime")) a.signing_time (signing_time document signature)
      (first_in document (xades (codes "SigningTime")) (xades (codes "SignedSignatureProperties")) (signed_signature_properties document signature) n1) in
      let e2 : signing_certificate_property new signature ≡ signing_certificate_property document signature =
      further_first (xades (codes "SigningCertificateV2")) (xades (codes "SignedSignatureProperties")) a.signed_signature _ (signed_signature_properties document signature) e1 n1 in
      let n2 = first_in document (xades (codes "SigningCertificateV2")) (xades (codes "SignedSignatureProperties")) (signed_signature_properties document signature) n1 in
      let a2 = apart (xades (codes "SigningCertificateV2")) a.signing_certificate (signing_certificate_property document signature) n2 in
      let e3 : first (called_in new (xades (codes "Cert")) (signing_certificate_property new signature)) ≡ first (called_in document (xades (codes "Cert")) (signing_certificate_property document signature)) =
      further_first (xades (codes "Cert")) (xades (codes "SigningCertificateV2")) a.signing_certificate _ (signing_certificate_property document signature) e2 n2 in
      let n3 = first_in document (xades (codes "Cert")) (xades (codes "SigningCertificateV2")) (signing_certificate_property document signature) n2 in
      let cert : List Spot = first (called_in document (xades (codes "Cert")) (signing_certificate_property document signature)) in
      let a3 = apart (xades (codes "Cert")) a.cert cert n3 in
      let c = cert_stays document added signature place host_name s a signed in
      let digest : List Spot = certificate_digest document signature in
      let a4 = apart (xades (codes "CertDigest")) a.cert_digest digest c.named in
      let methods = methods_stay document added place host_name (xades (codes "CertDigest")) s.place_named a.cert_digest _ digest c.same c.named in
      let values = further_first (ds (codes "DigestValue")) (xades (codes "CertDigest")) a.cert_digest _ digest c.same c.named in
      let values_apart = apart (ds (codes "DigestValue")) a.digest_value (digest_values document digest) (first_in document (ds (codes "DigestValue")) (xades (codes "CertDigest")) digest c.named) in
      let t = (λ i. with_stray_text new (e1 i ++ e2 i ++ e3 i ++ c.same i)) ∙ stray (signed_signature_properties document signature ++ signing_certificate_property document signature ++ cert ++ digest)
      (each_append (Apart document place) (signed_signature_properties document signature ++ signing_certificate_property document signature ++ cert) digest
      (each_append (Apart document place) (signed_signature_properties document signature ++ signing_certificate_property document signature) cert
      (each_append (Apart document place) (signed_signature_properties document signature) (signing_certificate_property document signature) a1 a2) a3) a4) in
      let l1 = ap (not_one new (xades (codes "SignedSignatureProperties"))) signed ∙ words.not_one_stay document added place (xades (codes "SignedSignatureProperties")) (signed_properties document signature) sp_apart in
      let l2 = ap (not_one new (xades (codes "SigningTime"))) e1 ∙ words.not_one_stay document added place (xades (codes "SigningTime")) (signed_signature_properties document signature) a1 in
      let l3 = ap (without_text new) time_same ∙ words.text_stay document added place (signing_time document signature) time_apart in
      let l4 = ap (not_one new (xades (codes "SigningCertificateV2"))) e1 ∙ words.not_one_stay document added place (xades (codes "SigningCertificateV2")) (signed_signature_properties document signature) a1 in
      let l5 = ap (lacking new (xades (codes "Cert"))) e2 ∙ words.lacking_stay document added place (xades (codes "Cert")) (signing_certificate_property document signature) a2 in
      let l6 = ap (lacking new (xades (codes "CertDigest"))) e3 ∙ words.lacking_stay document added place (xades (codes "CertDigest")) cert a3 in
      let l7 = ap (lacking new (ds (codes "DigestMethod"))) c.same ∙ words.lacking_stay document added place (ds (codes "DigestMethod")) digest a4 in
      let l8 = ap (λ spots. paths (filter (λ spot. is_none (digest_kind (spot ∷ []))) spots)) methods in
      let l9 = ap (lacking new (ds (codes "DigestValue"))) c.same ∙ words.lacking_stay document added place (ds (codes "DigestValue")) digest a4 in
      let l10 = ap (without_octets new) values ∙ words.octets_stay document added place (digest_values document digest) values_apart in
      λ i. t i ++ l1 i ++ l2 i ++ l3 i ++ l4 i ++ l5 i ++ l6 i ++ l7 i ++ l8 i ++ l9 i ++ l10 i

  -- The signed properties of data objects.

  data_same : signed_data_properties new signature ≡ signed_data_properties document signature
  data_same = further_first (xades (codes "SignedDataObjectProperties")) (xades (codes "SignedProperties")) a.signed_properties _ (signed_properties document signature) signed sp_named

  data_named : Each (IsNamed document (xades (codes "SignedDataObjectProperties"))) (signed_data_properties document signature)
  data_named = first_in document (xades (codes "SignedDataObjectProperties")) (xades (codes "SignedProperties")) (signed_properties document signature) sp_named

  data_apart : AllApart (signed_data_properties document signature)
  data_apart = apart (xades (codes "SignedDataObjectProperties")) a.signed_data (signed_data_properties document signature) data_named

  abbrev is_format_for : Spot → Spot → Bool
  is_format_for reference format =
      option_map_or (λ id. option_map_or (λ target. target is fragment id) (attribute (codes "ObjectReference") format) false) (id_of reference) false

  formats_named : (reference : Spot) → Each (IsNamed document (xades (codes "DataObjectFormat"))) (formats_for document signature reference)
  formats_named reference =
      each_map (λ f. IsNamed document (xades (codes "DataObjectFormat")) f × (is_format_for reference f ≡ true)) (IsNamed document (xades (codes "DataObjectFormat"))) _ (λ f h. h.0)
      (each_filter (IsNamed document (xades (codes "DataObjectFormat"))) (is_format_for reference) (called_in document (xades (codes "DataObjectFormat")) (signed_data_properties document signature))
      (named_in document (xades (codes "DataObjectFormat")) (xades (codes "SignedDataObjectProperties")) (signed_data_properties document signature) data_named))

  formats_same : (reference : Spot) → formats_for new signature reference ≡ formats_for document signature reference
  formats_same reference =
      ap (filter (is_format_for reference)) (ap (called_in new (xades (codes "DataObjectFormat"))) data_same
      ∙ chain_stays document added place host_name (xades (codes "DataObjectFormat")) (xades (codes "SignedDataObjectProperties")) s.place_named a.signed_data (signed_data_properties document signature) data_named)

  format_faults_stay : (reference : Spot) → format_faults new signature reference ≡ format_faults document signature reference
  format_faults_stay reference =
      let formats : List Spot = formats_for document signature reference in
      let same = formats_same reference in
      let named = formats_named reference in
      let first_named = each_first (IsNamed document (xades (codes "DataObjectFormat"))) formats named in
      let first_apart = apart (xades (codes "DataObjectFormat")) a.format (first formats) first_named in
      let types_same = further_first (xades (codes "MimeType")) (xades (codes "DataObjectFormat")) a.format (first (formats_for new signature reference)) (first formats) (ap first same) first_named in
      let types_apart = apart (xades (codes "MimeType")) a.mime (first (called_in document (xades (codes "MimeType")) (first formats)))
      (first_in document (xades (codes "MimeType")) (xades (codes "DataObjectFormat")) (first formats) first_named) in
      let t = ap (λ fs. with_stray_text new (first fs)) same ∙ stray (first formats) first_apart in
      let l = ap (λ fs. lacking new (xades (codes "MimeType")) (first fs)) same ∙ words.lacking_stay document added place (xades (codes "MimeType")) (first formats) first_apart in
      let w = ap (without_text new) types_same ∙ words.text_stay document added place (first (called_in document (xades (codes "MimeType")) (first formats))) types_apart in
      λ i. cond (is_empty (same i)) (paths (data_same i)) [] ++ paths (drop 1 (same i)) ++ t i ++ l i ++ w i

  wants_same : (reference : Spot) → wants_format new signature reference ≡ wants_format document signature reference
  wants_same reference =
      ap (λ keys. not (is_typed reference) && not (list_any (λ key. list_any (is_identifying (uri reference)) (attributes_in key.tags)) keys)) (key_info_stays document added signature place host_name s)

  pub data_object_line_stays : data_object_line new signature ≡ data_object_line document signature
  data_object_line_stays =
      let wanting_same : filter (wants_format new signature) (references new signature) ≡ filter (wants_format document signature) (references document signature) =
      ap (filter (wants_format new signature)) references_same
      ∙ filter_same (IsNamed document (ds (codes "Reference"))) (wants_format new signature) (wants_format document signature) (references document signature) (λ r n. wants_same r) all_references in
      let wanting : List Spot = filter (wants_format document signature) (references document signature) in
      let wanting_named = each_map (λ r. IsNamed document (ds (codes "Reference")) r × (wants_format document signature r ≡ true)) (IsNamed document (ds (codes "Reference"))) wanting (λ r h. h.0)
      (each_filter (IsNamed document (ds (codes "Reference"))) (wants_format document signature) (references document signature) all_references) in
      let t = ap (with_stray_text new) data_same ∙ stray (signed_data_properties document signature) data_apart in
      let l = ap (lacking new (xades (codes "SignedDataObjectProperties"))) signed ∙ words.lacking_stay document added place (xades (codes "SignedDataObjectProperties")) (signed_properties document signature) sp_apart in
      let f = ap (flat_map (data_object_line_of new signature)) wanting_same
      ∙ flat_same (IsNamed document (ds (codes "Reference"))) (data_object_line_of new signature) (data_object_line_of document signature) wanting
      (λ r n. ap (λ faults. cond (has_attribute (codes "Id") r) faults (r.path ∷ [])) (format_faults_stay r)) wanting_named in
      λ i. t i ++ cond (is_empty (wanting_same i)) [] (l i) ++ f i
