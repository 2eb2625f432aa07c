-- The parts of the prepared signature.
use Rattle.std.proofs.Common.{◌≡◌, ℕ, suc, ◌+◌, cond, not, List, [], ◌∷◌, ◌++◌, length, refl, ◌∙◌, ap, codes}
use Rattle.std.proofs.lemmas.List.{append-nil}
use Rattle.std.specs.Prelude.{filter, flat_map}
use Rattle.document_model.specs.Characters.{is_empty}
use Rattle.document_model.specs.Names.{Expanded}
use Rattle.document_model.specs.Tree.{Nodes, Path, Element}
use Rattle.document_model.specs.Scopes.{Tag}
use Rattle.signature_model.specs.Vocabulary.{ds, xades}
use Rattle.signature_model.specs.Spots.{Spot, is_called, elements_in, called, called_in, first}
use Rattle.signature_model.specs.Parts as parts
use Rattle.signature_model.specs.Fragments.{ds_element, xades_element}
use Rattle.signature_model.specs.Prepared.{Draft, properties_nodes, last_reference, formats_from}
use Rattle.covered_items.proofs.NewElements.{spot_below, elements_stand}
use Rattle.prepared_documents.specs.Places.{signature_attributes}
use Rattle.prepared_documents.proofs.Reading as reading
use Rattle.prepared_documents.proofs.Reading.{ds_named, xades_named, qualifying_attributes, properties_attributes, signature_inner, info_inner, certificate_nodes, signed_inner, properties_inner, cert_inner, certificate_inner, There, references_at, last_at, references_read, formats_at, formats_read, certificates_at, certificates_read}

module _ (d : Nodes) (path : Path) (outer : List Tag) (digest digest_of : List ℕ → List ℕ) (last_value : List ℕ) (draft : Draft) (s : There d path outer digest digest_of last_value draft) where
  abbrev pub sig : Spot
  sig = reading.signature path outer draft

  abbrev pub info : Spot
  info = reading.info path outer draft

  abbrev pub value : Spot
  value = reading.value path outer draft

  abbrev pub key : Spot
  key = reading.key path outer draft

  abbrev pub object : Spot
  object = reading.object path outer draft

  abbrev pub method : Spot
  method = reading.method path outer draft

  abbrev pub signature_method : Spot
  signature_method = reading.signature_method path outer draft

  abbrev pub qualifying : Spot
  qualifying = reading.qualifying path outer draft

  abbrev pub properties : Spot
  properties = reading.properties path outer draft

  abbrev pub last : Spot
  last = last_at path outer draft (2 + length draft.references)

  abbrev pub all_references : List Spot
  all_references = references_at path outer draft 2 1 draft.references

  -- what each holds

  pub sig_children : elements_in d sig ≡ info ∷ value ∷ key ∷ object ∷ []
  sig_children = elements_stand d sig (Element (ds_named (codes "Signature")) (signature_attributes draft) (signature_inner digest digest_of last_value draft)) s

  pub info_children : elements_in d info ≡ method ∷ signature_method ∷ (all_references ++ last ∷ [])
  info_children = elements_stand d info (Element (ds_named (codes "SignedInfo")) [] (info_inner digest_of last_value draft)) (reading.info_there d path outer digest digest_of last_value draft s)
      ∙ ap (λ spots. method ∷ signature_method ∷ spots) (references_read path outer draft digest_of (last_reference draft last_value) 2 1 draft.references)

  pub key_children : elements_in d key ≡ reading.data_ path outer draft ∷ []
  key_children = elements_stand d key (Element (ds_named (codes "KeyInfo")) [] (ds_element (codes "X509Data") [] (certificate_nodes draft.certificates))) (reading.key_there d path outer digest digest_of last_value draft s)

  pub data_children : elements_in d (reading.data_ path outer draft) ≡ certificates_at path outer draft 0 draft.certificates
  data_children = elements_stand d (reading.data_ path outer draft) (Element (ds_named (codes "X509Data")) [] (certificate_nodes draft.certificates)) (reading.data_there d path outer digest digest_of last_value draft s)
      ∙ certificates_read path outer draft 0 draft.certificates

  pub object_children : elements_in d object ≡ qualifying ∷ []
  object_children = elements_stand d object (Element (ds_named (codes "Object")) [] (xades_element (codes "QualifyingProperties") (qualifying_attributes draft) (properties_nodes digest draft))) (reading.object_there d path outer digest digest_of last_value draft s)

  pub qualifying_children : elements_in d qualifying ≡ properties ∷ []
  qualifying_children = elements_stand d qualifying (Element (xades_named (codes "QualifyingProperties")) (qualifying_attributes draft) (properties_nodes digest draft)) (reading.qualifying_there d path outer digest digest_of last_value draft s)

  pub properties_children : elements_in d properties ≡ reading.signed path outer draft ∷ reading.objects path outer draft ∷ []
  properties_children = elements_stand d properties (Element (xades_named (codes "SignedProperties")) (properties_attributes draft) (properties_inner digest draft)) (reading.properties_there d path outer digest digest_of last_value draft s)

  pub signed_children : elements_in d (reading.signed path outer draft) ≡ reading.time path outer draft ∷ reading.certificate path outer draft ∷ []
  signed_children = elements_stand d (reading.signed path outer draft) (Element (xades_named (codes "SignedSignatureProperties")) [] (signed_inner digest draft)) (reading.signed_there d path outer digest digest_of last_value draft s)

  pub objects_children : elements_in d (reading.objects path outer draft) ≡ formats_at path outer draft 0 1 draft.references
  objects_children = elements_stand d (reading.objects path outer draft) (Element (xades_named (codes "SignedDataObjectProperties")) [] (formats_from draft 1 draft.references)) (reading.objects_there d path outer digest digest_of last_value draft s)
      ∙ formats_read path outer draft 0 1 draft.references

  pub certificate_children : elements_in d (reading.certificate path outer draft) ≡ reading.cert path outer draft ∷ []
  certificate_children = elements_stand d (reading.certificate path outer draft) (Element (xades_named (codes "SigningCertificateV2")) [] (certificate_inner digest draft)) (reading.certificate_there d path outer digest digest_of last_value draft s)

  pub cert_children : elements_in d (reading.cert path outer draft) ≡ reading.cert_digest path outer draft ∷ []
  cert_children = elements_stand d (reading.cert path outer draft) (Element (xades_named (codes "Cert")) [] (cert_inner digest draft)) (reading.cert_there d path outer digest digest_of last_value draft s)

  -- one step down

  below_one : (name : Expanded) (holder : Spot) (found : List Spot) → called d name holder ≡ found → called_in d name (holder ∷ []) ≡ found
  below_one name holder found e = append-nil (called d name holder) ∙ e

  -- the parts

  pub info_is : parts.signed_info d sig ≡ info ∷ []
  info_is = ap (λ spots. first (filter (is_called (ds (codes "SignedInfo"))) spots)) sig_children

  pub value_is : parts.value d sig ≡ value ∷ []
  value_is = ap (λ spots. first (filter (is_called (ds (codes "SignatureValue"))) spots)) sig_children

  pub key_is : parts.key_info d sig ≡ key ∷ []
  key_is = ap (λ spots. first (filter (is_called (ds (codes "KeyInfo"))) spots)) sig_children

  pub objects_are : parts.objects d sig ≡ object ∷ []
  objects_are = ap (filter (is_called (ds (codes "Object")))) sig_children

  pub method_is : parts.method d sig ≡ method ∷ []
  method_is = ap (λ spots. first (called_in d (ds (codes "CanonicalizationMethod")) spots)) info_is
      ∙ ap first (below_one (ds (codes "CanonicalizationMethod")) info _ (ap (filter (is_called (ds (codes "CanonicalizationMethod")))) info_children))

  pub signature_method_is : parts.signature_method d sig ≡ signature_method ∷ []
  signature_method_is = ap (λ spots. first (called_in d (ds (codes "SignatureMethod")) spots)) info_is
      ∙ ap first (below_one (ds (codes "SignatureMethod")) info _ (ap (filter (is_called (ds (codes "SignatureMethod")))) info_children))

  all_called : (j k : ℕ) (uris : List (List ℕ)) (behind : List Spot)
      → filter (is_called (ds (codes "Reference"))) (references_at path outer draft j k uris ++ behind) ≡ references_at path outer draft j k uris ++ filter (is_called (ds (codes "Reference"))) behind
  all_called j k [] behind = refl
  all_called j k (uri ∷ uris) behind = ap (λ spots. reading.reference path outer draft j k uri ∷ spots) (all_called (suc j) (suc k) uris behind)

  pub references_are : parts.references d sig ≡ all_references ++ last ∷ []
  references_are = ap (called_in d (ds (codes "Reference"))) info_is
      ∙ below_one (ds (codes "Reference")) info _ (ap (filter (is_called (ds (codes "Reference")))) info_children ∙ all_called 2 1 draft.references (last ∷ []))

  pub qualifying_objects_are : parts.qualifying_objects d sig ≡ object ∷ []
  qualifying_objects_are = ap (filter (parts.is_qualifying d)) objects_are
      ∙ ap (λ spots. cond (not (is_empty (filter (is_called (xades (codes "QualifyingProperties"))) spots))) (object ∷ []) []) object_children

  pub qualifying_is : parts.qualifying d sig ≡ qualifying ∷ []
  qualifying_is = ap (λ spots. first (called_in d (xades (codes "QualifyingProperties")) (first spots))) qualifying_objects_are
      ∙ ap first (below_one (xades (codes "QualifyingProperties")) object _ (ap (filter (is_called (xades (codes "QualifyingProperties")))) object_children))

  pub properties_is : parts.signed_properties d sig ≡ properties ∷ []
  properties_is = ap (λ spots. first (called_in d (xades (codes "SignedProperties")) spots)) qualifying_is
      ∙ ap first (below_one (xades (codes "SignedProperties")) qualifying _ (ap (filter (is_called (xades (codes "SignedProperties")))) qualifying_children))

  pub unsigned_is : parts.unsigned d sig ≡ []
  unsigned_is = ap (λ spots. first (called_in d (xades (codes "UnsignedProperties")) spots)) qualifying_is
      ∙ ap first (below_one (xades (codes "UnsignedProperties")) qualifying _ (ap (filter (is_called (xades (codes "UnsignedProperties")))) qualifying_children))

  pub list_is : parts.unsigned_signature d sig ≡ []
  list_is = ap (λ spots. first (called_in d (xades (codes "UnsignedSignatureProperties")) spots)) unsigned_is

  pub no_properties : parts.properties d sig ≡ []
  no_properties = ap (flat_map (elements_in d)) list_is

  pub no_stamps : parts.stamps d sig ≡ []
  no_stamps = ap (filter parts.is_stamp) no_properties

  pub no_includes : parts.includes d sig ≡ []
  no_includes = ap (called_in d (xades (codes "Include"))) no_stamps

  pub host_is : parts.host d sig ≡ qualifying ∷ []
  host_is = λ i. first ((list_is i ++ unsigned_is i) ++ qualifying_is i)

  pub key_data_is : parts.key_data d sig ≡ reading.data_ path outer draft ∷ []
  key_data_is = ap (called_in d (ds (codes "X509Data"))) key_is
      ∙ below_one (ds (codes "X509Data")) key _ (ap (filter (is_called (ds (codes "X509Data")))) key_children)

  all_certificates : (j : ℕ) (certificates : List (List ℕ)) → filter (is_called (ds (codes "X509Certificate"))) (certificates_at path outer draft j certificates) ≡ certificates_at path outer draft j certificates
  all_certificates j [] = refl
  all_certificates j (octets ∷ others) = ap (λ spots. spot_below (reading.data_ path outer draft).path (reading.data_ path outer draft).tags j (ds_named (codes "X509Certificate")) [] ∷ spots) (all_certificates (suc j) others)

  pub certificates_are : parts.key_certificates d sig ≡ certificates_at path outer draft 0 draft.certificates
  certificates_are = ap (called_in d (ds (codes "X509Certificate"))) key_data_is
      ∙ below_one (ds (codes "X509Certificate")) (reading.data_ path outer draft) _ (ap (filter (is_called (ds (codes "X509Certificate")))) data_children ∙ all_certificates 0 draft.certificates)

  pub signed_is : parts.signed_signature_properties d sig ≡ reading.signed path outer draft ∷ []
  signed_is = ap (λ spots. first (called_in d (xades (codes "SignedSignatureProperties")) spots)) properties_is
      ∙ ap first (below_one (xades (codes "SignedSignatureProperties")) properties _ (ap (filter (is_called (xades (codes "SignedSignatureProperties")))) properties_children))

  pub time_is : parts.signing_time d sig ≡ reading.time path outer draft ∷ []
  time_is = ap (λ spots. first (called_in d (xades (codes "SigningTime")) spots)) signed_is
      ∙ ap first (below_one (xades (codes "SigningTime")) (reading.signed path outer draft) _ (ap (filter (is_called (xades (codes "SigningTime")))) signed_children))

  pub certificate_is : parts.signing_certificate_property d sig ≡ reading.certificate path outer draft ∷ []
  certificate_is = ap (λ spots. first (called_in d (xades (codes "SigningCertificateV2")) spots)) signed_is
      ∙ ap first (below_one (xades (codes "SigningCertificateV2")) (reading.signed path outer draft) _ (ap (filter (is_called (xades (codes "SigningCertificateV2")))) signed_children))

  pub cert_is : called_in d (xades (codes "Cert")) (parts.signing_certificate_property d sig) ≡ reading.cert path outer draft ∷ []
  cert_is = ap (called_in d (xades (codes "Cert"))) certificate_is
      ∙ below_one (xades (codes "Cert")) (reading.certificate path outer draft) _ (ap (filter (is_called (xades (codes "Cert")))) certificate_children)

  pub digest_is : parts.certificate_digest d sig ≡ reading.cert_digest path outer draft ∷ []
  digest_is = ap (λ spots. first (called_in d (xades (codes "CertDigest")) (first spots))) cert_is
      ∙ ap first (below_one (xades (codes "CertDigest")) (reading.cert path outer draft) _ (ap (filter (is_called (xades (codes "CertDigest")))) cert_children))
