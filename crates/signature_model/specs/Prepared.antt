-- The document that is prepared for signing: XML Signature 1.1, "Core Generation"; EN 319 132-1, clauses 4.3, 4.4 and 5.2. Its layout is
-- this project's own.
use Rattle.std.specs.Prelude.{ℕ, suc, if◌then◌else◌, List, [], ◌∷◌, ◌++◌, unwrap_or, codes}
use Rattle.std.specs.Option.{option_map_or}
use Rattle.std.specs.Fmt.{decimal}
use Rattle.document_model.specs.Tree.{Nodes, Path, Element, no_nodes, ◌⨾◌, put_last}
use Rattle.document_model.specs.NodeSets.{subtree}
use Rattle.document_model.specs.Canonical.{octets_of}
use Rattle.document_model.specs.Methods.{exclusive_name}
use Rattle.document_model.specs.Insertion.{put_inside}
use Rattle.signature_model.specs.Vocabulary.{DigestKind, digest_name, ds_space, xades_space, enveloped_name, signed_properties_type, fragment}
use Rattle.signature_model.specs.Chains.{Handed, Place, Document, place_named, is_external, target_set}
use Rattle.signature_model.specs.Octets.{next_form}
use Rattle.signature_model.specs.Fragments.{having, declaring, ds_element, xades_element, text, encoded, ◌then◌, each, written_octets}

pub record Draft : Type 0 where
  pub time : List ℕ
  pub id : List ℕ
  pub method : List ℕ
  pub digest : DigestKind
  pub certificates : List (List ℕ)
  pub references : List (List ℕ)

abbrev pub algorithm : List ℕ → List ℕ → Nodes
algorithm local name = ds_element local (having (codes "Algorithm") name ∷ []) no_nodes

abbrev pub digest_nodes : DigestKind → List ℕ → Nodes
digest_nodes kind value = algorithm (codes "DigestMethod") (digest_name kind) then ds_element (codes "DigestValue") [] (encoded value)

-- X-rK
abbrev pub reference_id : List ℕ → ℕ → List ℕ
reference_id id k = id ++ codes "-r" ++ decimal k

abbrev pub enveloped_transform : Place → Nodes
enveloped_transform Document = algorithm (codes "Transform") enveloped_name
enveloped_transform place = no_nodes

abbrev pub transform_nodes : Place → Nodes
transform_nodes place = if is_external place then no_nodes
    else ds_element (codes "Transforms") [] (enveloped_transform place then algorithm (codes "Transform") exclusive_name)

abbrev pub reference_nodes : Draft → ℕ → List ℕ → List ℕ → Nodes
reference_nodes draft k uri value =
    ds_element (codes "Reference") (having (codes "Id") (reference_id draft.id k) ∷ having (codes "URI") uri ∷ [])
    (transform_nodes (place_named uri) then digest_nodes draft.digest value)

-- the digests are of the octets that the References have
abbrev pub references_from : Draft → (List ℕ → List ℕ) → ℕ → List (List ℕ) → Nodes
references_from draft digest_of k [] = no_nodes
references_from draft digest_of k (uri ∷ uris) = reference_nodes draft k uri (digest_of uri) then references_from draft digest_of (suc k) uris

abbrev pub properties_id : List ℕ → List ℕ
properties_id id = id ++ codes "-sp"

abbrev pub last_reference : Draft → List ℕ → Nodes
last_reference draft value =
    ds_element (codes "Reference") (having (codes "Type") signed_properties_type ∷ having (codes "URI") (fragment (properties_id draft.id)) ∷ [])
    (ds_element (codes "Transforms") [] (algorithm (codes "Transform") exclusive_name) then digest_nodes draft.digest value)

abbrev pub mime_type : Place → List ℕ
mime_type place = if is_external place then codes "application/octet-stream" else codes "text/xml"

abbrev pub format_nodes : Draft → ℕ → List ℕ → Nodes
format_nodes draft k uri = xades_element (codes "DataObjectFormat") (having (codes "ObjectReference") (fragment (reference_id draft.id k)) ∷ [])
    (xades_element (codes "MimeType") [] (text (mime_type (place_named uri))))

abbrev pub formats_from : Draft → ℕ → List (List ℕ) → Nodes
formats_from draft k [] = no_nodes
formats_from draft k (uri ∷ uris) = format_nodes draft k uri then formats_from draft (suc k) uris

abbrev pub first_certificate : Draft → List ℕ
first_certificate draft = first_of draft.certificates
  where
    first_of : List (List ℕ) → List ℕ
    first_of [] = []
    first_of (octets ∷ others) = octets

-- the digest of the first certificate stands in CertDigest
abbrev pub properties_nodes : (List ℕ → List ℕ) → Draft → Nodes
properties_nodes digest draft = xades_element (codes "SignedProperties") (having (codes "Id") (properties_id draft.id) ∷ [])
    (xades_element (codes "SignedSignatureProperties") []
    (xades_element (codes "SigningTime") [] (text draft.time)
    then xades_element (codes "SigningCertificateV2") [] (xades_element (codes "Cert") []
    (xades_element (codes "CertDigest") [] (digest_nodes draft.digest (digest (first_certificate draft))))))
    then xades_element (codes "SignedDataObjectProperties") [] (formats_from draft 1 draft.references))

-- the signature, by the digests of certificates, of the octets that URIs name, and of the SignedProperties
abbrev pub signature_nodes : (List ℕ → List ℕ) → (List ℕ → List ℕ) → List ℕ → Draft → Nodes
signature_nodes digest digest_of properties_value draft =
    ds_element (codes "Signature") (declaring (codes "ds") ds_space ∷ having (codes "Id") draft.id ∷ [])
    (ds_element (codes "SignedInfo") []
    (algorithm (codes "CanonicalizationMethod") exclusive_name then algorithm (codes "SignatureMethod") draft.method
    then references_from draft digest_of 1 draft.references then last_reference draft properties_value)
    then ds_element (codes "SignatureValue") [] no_nodes
    then ds_element (codes "KeyInfo") [] (ds_element (codes "X509Data") [] (each (λ octets. ds_element (codes "X509Certificate") [] (encoded octets)) draft.certificates))
    then ds_element (codes "Object") []
    (xades_element (codes "QualifyingProperties") (declaring (codes "xades") xades_space ∷ having (codes "Target") (fragment draft.id) ∷ [])
    (properties_nodes digest draft)))

-- where the SignedProperties stand in these nodes
abbrev pub properties_path : Path
properties_path = 0 ∷ 3 ∷ 0 ∷ 0 ∷ []

-- the octets of the SignedProperties don't depend on the digests in the References
abbrev pub properties_octets : (List ℕ → List ℕ) → Draft → List ℕ
properties_octets digest draft =
    octets_of next_form (subtree properties_path) (signature_nodes digest (λ uri. []) [] draft)

-- the octets that a URI names in the document as it is
abbrev pub named_octets : Handed → Nodes → List ℕ → List ℕ
named_octets handed document uri = option_map_or (λ set. octets_of next_form set document) (target_set document (place_named uri)) (unwrap_or (handed uri) [])

abbrev pub prepared_nodes : (DigestKind → List ℕ → List ℕ) → Handed → Nodes → Draft → Nodes
prepared_nodes digest handed document draft =
    signature_nodes (digest draft.digest) (λ uri. digest draft.digest (named_octets handed document uri))
    (digest draft.digest (properties_octets (digest draft.digest) draft)) draft

-- the path of the document element, which stands behind comments, PIs and white space
abbrev pub root_path : ℕ → Nodes → Path
root_path k no_nodes = []
root_path k (Element name attributes nodes ⨾ others) = k ∷ []
root_path k (node ⨾ nodes) = root_path (suc k) nodes

abbrev pub prepared : (DigestKind → List ℕ → List ℕ) → Handed → Nodes → Draft → Nodes
prepared digest handed document draft = put_last (prepared_nodes digest handed document draft) (root_path 0 document) document

abbrev pub prepared_bytes : (DigestKind → List ℕ → List ℕ) → Handed → Nodes → Draft → List ℕ → List ℕ
prepared_bytes digest handed document draft bytes =
    put_inside (written_octets (prepared_nodes digest handed document draft)) (root_path 0 document) bytes
