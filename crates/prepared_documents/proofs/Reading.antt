-- What stands in the prepared signature, wherever it is.
use Rattle.std.proofs.Common.{◌≡◌, ℕ, suc, ◌+◌, List, [], ◌∷◌, ◌++◌, length, Some, refl, ◌∙◌, ap, subst, codes, arith}
use Rattle.document_model.specs.Names.{Name}
use Rattle.document_model.specs.Items.{Attribute}
use Rattle.document_model.specs.Tree.{Node, Nodes, Path, Element, no_nodes, ◌⨾◌, nth, joined}
use Rattle.document_model.specs.Scopes.{Tag}
use Rattle.document_model.specs.Methods.{exclusive_name}
use Rattle.signature_model.specs.Vocabulary.{xades_space, signed_properties_type, fragment}
use Rattle.signature_model.specs.Spots.{Spot, emptied_all, elements_from}
use Rattle.signature_model.specs.Chains.{place_named}
use Rattle.signature_model.specs.Fragments.{prefixed, having, declaring, ds_element, xades_element, text, encoded, ◌then◌, each}
use Rattle.signature_model.specs.Prepared.{Draft, algorithm, digest_nodes, reference_id, transform_nodes, references_from, properties_id, last_reference, formats_from, first_certificate, properties_nodes, signature_nodes}
use Rattle.covered_items.proofs.NewElements.{one_element, spot_below, Stands, child_there}
use Rattle.prepared_documents.specs.Places.{signature_attributes, signature_tag}

-- Names, attributes and content.

abbrev pub ds_named : List ℕ → Name
ds_named local = prefixed (codes "ds") local

abbrev pub xades_named : List ℕ → Name
xades_named local = prefixed (codes "xades") local

abbrev pub algorithm_attributes : List ℕ → List Attribute
algorithm_attributes name = having (codes "Algorithm") name ∷ []

abbrev pub reference_attributes : Draft → ℕ → List ℕ → List Attribute
reference_attributes draft k uri = having (codes "Id") (reference_id draft.id k) ∷ having (codes "URI") uri ∷ []

abbrev pub last_attributes : Draft → List Attribute
last_attributes draft = having (codes "Type") signed_properties_type ∷ having (codes "URI") (fragment (properties_id draft.id)) ∷ []

abbrev pub qualifying_attributes : Draft → List Attribute
qualifying_attributes draft = declaring (codes "xades") xades_space ∷ having (codes "Target") (fragment draft.id) ∷ []

abbrev pub properties_attributes : Draft → List Attribute
properties_attributes draft = having (codes "Id") (properties_id draft.id) ∷ []

abbrev pub format_attributes : Draft → ℕ → List Attribute
format_attributes draft k = having (codes "ObjectReference") (fragment (reference_id draft.id k)) ∷ []

abbrev pub info_inner : (List ℕ → List ℕ) → List ℕ → Draft → Nodes
info_inner digest_of value draft =
    algorithm (codes "CanonicalizationMethod") exclusive_name then algorithm (codes "SignatureMethod") draft.method
    then references_from draft digest_of 1 draft.references then last_reference draft value

abbrev pub certificate_nodes : List (List ℕ) → Nodes
certificate_nodes certificates = each (λ octets. ds_element (codes "X509Certificate") [] (encoded octets)) certificates

abbrev pub cert_inner : (List ℕ → List ℕ) → Draft → Nodes
cert_inner digest draft = xades_element (codes "CertDigest") [] (digest_nodes draft.digest (digest (first_certificate draft)))

abbrev pub certificate_inner : (List ℕ → List ℕ) → Draft → Nodes
certificate_inner digest draft = xades_element (codes "Cert") [] (cert_inner digest draft)

abbrev pub signed_inner : (List ℕ → List ℕ) → Draft → Nodes
signed_inner digest draft = xades_element (codes "SigningTime") [] (text draft.time) then xades_element (codes "SigningCertificateV2") [] (certificate_inner digest draft)

abbrev pub properties_inner : (List ℕ → List ℕ) → Draft → Nodes
properties_inner digest draft = xades_element (codes "SignedSignatureProperties") [] (signed_inner digest draft)
    then xades_element (codes "SignedDataObjectProperties") [] (formats_from draft 1 draft.references)

abbrev pub signature_inner : (List ℕ → List ℕ) → (List ℕ → List ℕ) → List ℕ → Draft → Nodes
signature_inner digest digest_of value draft =
    ds_element (codes "SignedInfo") [] (info_inner digest_of value draft)
    then ds_element (codes "SignatureValue") [] no_nodes
    then ds_element (codes "KeyInfo") [] (ds_element (codes "X509Data") [] (certificate_nodes draft.certificates))
    then ds_element (codes "Object") [] (xades_element (codes "QualifyingProperties") (qualifying_attributes draft) (properties_nodes digest draft))

pub signature_is : (digest digest_of : List ℕ → List ℕ) (value : List ℕ) (draft : Draft)
    → signature_nodes digest digest_of value draft ≡ one_element (ds_named (codes "Signature")) (signature_attributes draft) (signature_inner digest digest_of value draft)
signature_is digest digest_of value draft = refl

-- Where its elements stand.

module _ (path : Path) (outer : List Tag) (draft : Draft) where
  abbrev pub signature : Spot
  signature = record { path = path; tags = signature_tag draft ∷ outer }

  abbrev pub info : Spot
  info = spot_below signature.path signature.tags 0 (ds_named (codes "SignedInfo")) []

  abbrev pub value : Spot
  value = spot_below signature.path signature.tags 1 (ds_named (codes "SignatureValue")) []

  abbrev pub key : Spot
  key = spot_below signature.path signature.tags 2 (ds_named (codes "KeyInfo")) []

  abbrev pub object : Spot
  object = spot_below signature.path signature.tags 3 (ds_named (codes "Object")) []

  abbrev pub method : Spot
  method = spot_below info.path info.tags 0 (ds_named (codes "CanonicalizationMethod")) (algorithm_attributes exclusive_name)

  abbrev pub signature_method : Spot
  signature_method = spot_below info.path info.tags 1 (ds_named (codes "SignatureMethod")) (algorithm_attributes draft.method)

  -- a Reference that is the j-th child, with the number k
  abbrev pub reference : ℕ → ℕ → List ℕ → Spot
  reference j k uri = spot_below info.path info.tags j (ds_named (codes "Reference")) (reference_attributes draft k uri)

  abbrev pub references_at : ℕ → ℕ → List (List ℕ) → List Spot
  references_at j k [] = []
  references_at j k (uri ∷ uris) = reference j k uri ∷ references_at (suc j) (suc k) uris

  abbrev pub last_at : ℕ → Spot
  last_at j = spot_below info.path info.tags j (ds_named (codes "Reference")) (last_attributes draft)

  abbrev pub data_ : Spot
  data_ = spot_below key.path key.tags 0 (ds_named (codes "X509Data")) []

  abbrev pub certificates_at : ℕ → List (List ℕ) → List Spot
  certificates_at j [] = []
  certificates_at j (octets ∷ others) = spot_below data_.path data_.tags j (ds_named (codes "X509Certificate")) [] ∷ certificates_at (suc j) others

  abbrev pub qualifying : Spot
  qualifying = spot_below object.path object.tags 0 (xades_named (codes "QualifyingProperties")) (qualifying_attributes draft)

  abbrev pub properties : Spot
  properties = spot_below qualifying.path qualifying.tags 0 (xades_named (codes "SignedProperties")) (properties_attributes draft)

  abbrev pub signed : Spot
  signed = spot_below properties.path properties.tags 0 (xades_named (codes "SignedSignatureProperties")) []

  abbrev pub objects : Spot
  objects = spot_below properties.path properties.tags 1 (xades_named (codes "SignedDataObjectProperties")) []

  abbrev pub time : Spot
  time = spot_below signed.path signed.tags 0 (xades_named (codes "SigningTime")) []

  abbrev pub certificate : Spot
  certificate = spot_below signed.path signed.tags 1 (xades_named (codes "SigningCertificateV2")) []

  abbrev pub cert : Spot
  cert = spot_below certificate.path certificate.tags 0 (xades_named (codes "Cert")) []

  abbrev pub cert_digest : Spot
  cert_digest = spot_below cert.path cert.tags 0 (xades_named (codes "CertDigest")) []

  abbrev pub format_at : ℕ → ℕ → Spot
  format_at j k = spot_below objects.path objects.tags j (xades_named (codes "DataObjectFormat")) (format_attributes draft k)

  abbrev pub formats_at : ℕ → ℕ → List (List ℕ) → List Spot
  formats_at j k [] = []
  formats_at j k (uri ∷ uris) = format_at j k ∷ formats_at (suc j) (suc k) uris

  -- References among nodes.

  pub references_read : (digest_of : List ℕ → List ℕ) (behind : Nodes) (j k : ℕ) (uris : List (List ℕ))
      → elements_from info.path info.tags j (emptied_all (joined (references_from draft digest_of k uris) behind))
      ≡ references_at j k uris ++ elements_from info.path info.tags (j + length uris) (emptied_all behind)
  references_read digest_of behind j k [] = let n : j ≡ j + 0 = omega arith in ap (λ i. elements_from info.path info.tags i (emptied_all behind)) n
  references_read digest_of behind j k (uri ∷ uris) =
      let n : suc j + length uris ≡ j + suc (length uris) = omega arith in
      ap (λ spots. reference j k uri ∷ spots) (references_read digest_of behind (suc j) (suc k) uris
      ∙ ap (λ i. references_at (suc j) (suc k) uris ++ elements_from info.path info.tags i (emptied_all behind)) n)

  pub formats_read : (j k : ℕ) (uris : List (List ℕ)) → elements_from objects.path objects.tags j (emptied_all (formats_from draft k uris)) ≡ formats_at j k uris
  formats_read j k [] = refl
  formats_read j k (uri ∷ uris) = ap (λ spots. format_at j k ∷ spots) (formats_read (suc j) (suc k) uris)

  pub certificates_read : (j : ℕ) (certificates : List (List ℕ)) → elements_from data_.path data_.tags j (emptied_all (certificate_nodes certificates)) ≡ certificates_at j certificates
  certificates_read j [] = refl
  certificates_read j (octets ∷ others) = ap (λ spots. spot_below data_.path data_.tags j (ds_named (codes "X509Certificate")) [] ∷ spots) (certificates_read (suc j) others)

-- What they hold.

-- nodes that stand from the j-th child on
abbrev pub Follow : ℕ → Nodes → Nodes → Type 0
Follow j nodes all = (i : ℕ) (c : Node) → nth i nodes ≡ Some c → nth (j + i) all ≡ Some c

pub follow_more : (j : ℕ) (node : Node) (nodes all : Nodes) → Follow j (node ⨾ nodes) all → Follow (suc j) nodes all
follow_more j node nodes all f i c e = let n : suc j + i ≡ j + suc i = omega arith in ap (λ k. nth k all) n ∙ f (suc i) c e

pub follow_first : (j : ℕ) (node : Node) (nodes all : Nodes) → Follow j (node ⨾ nodes) all → nth j all ≡ Some node
follow_first j node nodes all f = let n : j ≡ j + 0 = omega arith in ap (λ k. nth k all) n ∙ f 0 node refl

module _ (d : Nodes) (path : Path) (outer : List Tag) (digest digest_of : List ℕ → List ℕ) (last_value : List ℕ) (draft : Draft) where
  abbrev pub There : Type 0
  There = Stands d (signature path outer draft) (Element (ds_named (codes "Signature")) (signature_attributes draft) (signature_inner digest digest_of last_value draft))

  pub info_there : There → Stands d (info path outer draft) (Element (ds_named (codes "SignedInfo")) [] (info_inner digest_of last_value draft))
  info_there s = child_there d _ _ s 0 (ds_named (codes "SignedInfo")) [] (info_inner digest_of last_value draft) refl

  pub value_there : There → Stands d (value path outer draft) (Element (ds_named (codes "SignatureValue")) [] no_nodes)
  value_there s = child_there d _ _ s 1 (ds_named (codes "SignatureValue")) [] no_nodes refl

  pub key_there : There → Stands d (key path outer draft) (Element (ds_named (codes "KeyInfo")) [] (ds_element (codes "X509Data") [] (certificate_nodes draft.certificates)))
  key_there s = child_there d _ _ s 2 (ds_named (codes "KeyInfo")) [] (ds_element (codes "X509Data") [] (certificate_nodes draft.certificates)) refl

  pub object_there : There → Stands d (object path outer draft) (Element (ds_named (codes "Object")) [] (xades_element (codes "QualifyingProperties") (qualifying_attributes draft) (properties_nodes digest draft)))
  object_there s = child_there d _ _ s 3 (ds_named (codes "Object")) [] (xades_element (codes "QualifyingProperties") (qualifying_attributes draft) (properties_nodes digest draft)) refl

  pub method_there : There → Stands d (method path outer draft) (Element (ds_named (codes "CanonicalizationMethod")) (algorithm_attributes exclusive_name) no_nodes)
  method_there s = child_there d _ _ (info_there s) 0 (ds_named (codes "CanonicalizationMethod")) (algorithm_attributes exclusive_name) no_nodes refl

  pub signature_method_there : There → Stands d (signature_method path outer draft) (Element (ds_named (codes "SignatureMethod")) (algorithm_attributes draft.method) no_nodes)
  signature_method_there s = child_there d _ _ (info_there s) 1 (ds_named (codes "SignatureMethod")) (algorithm_attributes draft.method) no_nodes refl

  abbrev pub reference_inner : List ℕ → Nodes
  reference_inner uri = transform_nodes (place_named uri) then digest_nodes draft.digest (digest_of uri)

  abbrev pub ReferencesThere : ℕ → ℕ → List (List ℕ) → Type 0
  ReferencesThere j k [] = Unit {0}
  ReferencesThere j k (uri ∷ uris) =
      Stands d (reference path outer draft j k uri) (Element (ds_named (codes "Reference")) (reference_attributes draft k uri) (reference_inner uri))
      × ReferencesThere (suc j) (suc k) uris

  abbrev pub last_inner : Nodes
  last_inner = ds_element (codes "Transforms") [] (algorithm (codes "Transform") exclusive_name) then digest_nodes draft.digest last_value

  abbrev pub LastThere : ℕ → Type 0
  LastThere j = Stands d (last_at path outer draft j) (Element (ds_named (codes "Reference")) (last_attributes draft) last_inner)

  references_from_there : There → (j k : ℕ) (uris : List (List ℕ)) → Follow j (joined (references_from draft digest_of k uris) (last_reference draft last_value)) (info_inner digest_of last_value draft)
      → ReferencesThere j k uris × LastThere (j + length uris)
  references_from_there s j k [] f =
      (tt, child_there d _ _ (info_there s) (j + 0) (ds_named (codes "Reference")) (last_attributes draft) last_inner (f 0 _ refl))
  references_from_there s j k (uri ∷ uris) f =
      let n : suc j + length uris ≡ j + suc (length uris) = omega arith in
      let more = references_from_there s (suc j) (suc k) uris (follow_more j _ _ (info_inner digest_of last_value draft) f) in
      let last : LastThere (j + suc (length uris)) = subst LastThere n more.1 in
      ((child_there d _ _ (info_there s) j (ds_named (codes "Reference")) (reference_attributes draft k uri) (reference_inner uri) (follow_first j _ _ (info_inner digest_of last_value draft) f), more.0), last)

  pub references_there : There → ReferencesThere 2 1 draft.references × LastThere (2 + length draft.references)
  references_there s = references_from_there s 2 1 draft.references
      (λ i c e. let n : 2 + i ≡ suc (suc i) = omega arith in ap (λ k. nth k (info_inner digest_of last_value draft)) n ∙ e)

  pub data_there : There → Stands d (data_ path outer draft) (Element (ds_named (codes "X509Data")) [] (certificate_nodes draft.certificates))
  data_there s = child_there d _ _ (key_there s) 0 (ds_named (codes "X509Data")) [] (certificate_nodes draft.certificates) refl

  pub qualifying_there : There → Stands d (qualifying path outer draft) (Element (xades_named (codes "QualifyingProperties")) (qualifying_attributes draft) (properties_nodes digest draft))
  qualifying_there s = child_there d _ _ (object_there s) 0 (xades_named (codes "QualifyingProperties")) (qualifying_attributes draft) (properties_nodes digest draft) refl

  pub properties_there : There → Stands d (properties path outer draft) (Element (xades_named (codes "SignedProperties")) (properties_attributes draft) (properties_inner digest draft))
  properties_there s = child_there d _ _ (qualifying_there s) 0 (xades_named (codes "SignedProperties")) (properties_attributes draft) (properties_inner digest draft) refl

  pub signed_there : There → Stands d (signed path outer draft) (Element (xades_named (codes "SignedSignatureProperties")) [] (signed_inner digest draft))
  signed_there s = child_there d _ _ (properties_there s) 0 (xades_named (codes "SignedSignatureProperties")) [] (signed_inner digest draft) refl

  pub objects_there : There → Stands d (objects path outer draft) (Element (xades_named (codes "SignedDataObjectProperties")) [] (formats_from draft 1 draft.references))
  objects_there s = child_there d _ _ (properties_there s) 1 (xades_named (codes "SignedDataObjectProperties")) [] (formats_from draft 1 draft.references) refl

  pub time_there : There → Stands d (time path outer draft) (Element (xades_named (codes "SigningTime")) [] (text draft.time))
  time_there s = child_there d _ _ (signed_there s) 0 (xades_named (codes "SigningTime")) [] (text draft.time) refl

  pub certificate_there : There → Stands d (certificate path outer draft) (Element (xades_named (codes "SigningCertificateV2")) [] (certificate_inner digest draft))
  certificate_there s = child_there d _ _ (signed_there s) 1 (xades_named (codes "SigningCertificateV2")) [] (certificate_inner digest draft) refl

  pub cert_there : There → Stands d (cert path outer draft) (Element (xades_named (codes "Cert")) [] (cert_inner digest draft))
  cert_there s = child_there d _ _ (certificate_there s) 0 (xades_named (codes "Cert")) [] (cert_inner digest draft) refl

  pub cert_digest_there : There → Stands d (cert_digest path outer draft) (Element (xades_named (codes "CertDigest")) [] (digest_nodes draft.digest (digest (first_certificate draft))))
  cert_digest_there s = child_there d _ _ (cert_there s) 0 (xades_named (codes "CertDigest")) [] (digest_nodes draft.digest (digest (first_certificate draft))) refl
