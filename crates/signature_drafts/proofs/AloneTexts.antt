-- The exclusive text of signed properties that stand in the signature is what is written of them alone.
use Rattle.std.proofs.Common.{◌≡◌, ℕ, suc, List, [], ◌∷◌, ◌++◌, refl, sym, ◌∙◌, ap, append_assoc, codes}
use Rattle.std.proofs.lemmas.List.{append-nil}
use Rattle.std.specs.Prelude.{encode_utf8_all, flat_map}
use Rattle.base64.specs.GeneralPurpose.{encode_of}
use Rattle.base64.specs.Engines.{standard}
use Rattle.document_model.specs.Canonical.{Exclusive, Around, at_apex, inside, start_text, end_text, node_text, nodes_text, attribute_text}
use Rattle.document_model.specs.Items.{Attribute}
use Rattle.document_model.specs.Names.{Name, spelled}
use Rattle.document_model.specs.Scopes.{Tag}
use Rattle.document_model.specs.Tree.{Node, Nodes, Element, no_nodes}
use Rattle.signature_model.specs.Vocabulary.{ds_space, xades_space, digest_name, fragment}
use Rattle.signature_model.specs.Chains.{place_named}
use Rattle.signature_model.specs.Fragments.{written, written_node, written_octets, prefixed, having, declaring, xades_element, text, encoded, ◌then◌}
use Rattle.signature_model.specs.Prepared.{Draft, reference_id, properties_id, mime_type, format_nodes, formats_from, first_certificate, signature_nodes, properties_path, properties_octets}
use Rattle.prepared_documents.proofs.PropertiesText.{properties_ours, subtree_text}
use Rattle.prepared_documents.proofs.Reading.{xades_named, properties_attributes, properties_inner}
use Rattle.signature_drafts.specs.Properties.{digest_with, properties_with}

abbrev tag_named : List ℕ → List ℕ → List Attribute → Tag
tag_named prefix local attributes = record { name = prefixed prefix local; attributes = attributes }

-- an element's text, where its start tag is that of an element with some attributes
element_text : (around : Around) (name : Name) (attributes shown : List Attribute) (inner told : Nodes)
    → start_text (Exclusive []) around (record { name = name; attributes = attributes }) ≡ codes "<" ++ spelled name ++ flat_map (λ a. attribute_text (spelled a.name) a.value) shown ++ codes ">"
    → nodes_text (Exclusive []) (inside (Exclusive []) around (record { name = name; attributes = attributes })) inner ≡ written told
    → node_text (Exclusive []) around (Element name attributes inner) ≡ written_node (Element name shown told)
element_text around name attributes shown inner told s n =
    (λ i. s i ++ n i ++ end_text (record { name = name; attributes = attributes }))
    ∙ regroup (codes "<" ++ spelled name ++ flat_map (λ a. attribute_text (spelled a.name) a.value) shown ++ codes ">" ++ written told) (codes "</") (spelled name) (codes ">")
  where
    regroup : (x a b c : List ℕ) → x ++ (a ++ b ++ c) ≡ x ++ a ++ b ++ c
    regroup x a b c = simp append_assoc

-- a text
plain_text : (around : Around) (cs : List ℕ) → nodes_text (Exclusive []) around (text cs) ≡ written (text cs)
plain_text around [] = refl
plain_text around (c ∷ cs) = refl

-- what stands around the signed properties, in the signature alone
abbrev around_alone : Draft → List Tag
around_alone draft =
    tag_named (codes "xades") (codes "QualifyingProperties") (declaring (codes "xades") xades_space ∷ having (codes "Target") (fragment draft.id) ∷ [])
    ∷ tag_named (codes "ds") (codes "Object") []
    ∷ tag_named (codes "ds") (codes "Signature") (declaring (codes "ds") ds_space ∷ having (codes "Id") draft.id ∷ [])
    ∷ []

abbrev apex_of : Draft → Around
apex_of draft = at_apex (around_alone draft)

abbrev in_properties : Draft → Around
in_properties draft = inside (Exclusive []) (apex_of draft) (tag_named (codes "xades") (codes "SignedProperties") (having (codes "Id") (properties_id draft.id) ∷ []))

abbrev in_objects : Draft → Around
in_objects draft = inside (Exclusive []) (in_properties draft) (tag_named (codes "xades") (codes "SignedDataObjectProperties") [])

abbrev format_node : Draft → ℕ → List ℕ → Node
format_node draft k uri = Element (prefixed (codes "xades") (codes "DataObjectFormat")) (having (codes "ObjectReference") (fragment (reference_id draft.id k)) ∷ [])
    (xades_element (codes "MimeType") [] (text (mime_type (place_named uri))))

format_text : (draft : Draft) (k : ℕ) (uri : List ℕ) → nodes_text (Exclusive []) (in_objects draft) (format_nodes draft k uri) ≡ written (format_nodes draft k uri)
format_text draft k uri =
    let around : Around = in_objects draft in
    let told : Nodes = text (mime_type (place_named uri)) in
    let attributes : List Attribute = having (codes "ObjectReference") (fragment (reference_id draft.id k)) ∷ [] in
    let within : Around = inside (Exclusive []) around (tag_named (codes "xades") (codes "DataObjectFormat") attributes) in
    let named : Nodes = xades_element (codes "MimeType") [] told in
    let inner : nodes_text (Exclusive []) within named ≡ written named =
    ap (λ x. x ++ []) (element_text within (prefixed (codes "xades") (codes "MimeType")) [] [] told told refl (plain_text (inside (Exclusive []) within (tag_named (codes "xades") (codes "MimeType") [])) (mime_type (place_named uri)))) in
    ap (λ x. x ++ []) (element_text around (prefixed (codes "xades") (codes "DataObjectFormat")) attributes attributes named named refl inner)

formats_text : (draft : Draft) (k : ℕ) (uris : List (List ℕ)) → nodes_text (Exclusive []) (in_objects draft) (formats_from draft k uris) ≡ written (formats_from draft k uris)
formats_text draft k [] = refl
formats_text draft k (uri ∷ uris) = λ i. first i ++ formats_text draft (suc k) uris i
  where
    first : node_text (Exclusive []) (in_objects draft) (format_node draft k uri) ≡ written_node (format_node draft k uri)
    first = sym (append-nil (node_text (Exclusive []) (in_objects draft) (format_node draft k uri))) ∙ format_text draft k uri ∙ append-nil (written_node (format_node draft k uri))

-- a digest alone
digest_text : (around : Around) (name value : List ℕ)
    → start_text (Exclusive []) around (tag_named (codes "ds") (codes "DigestMethod") (having (codes "Algorithm") name ∷ [])) ≡ codes "<ds:DigestMethod" ++ flat_map (λ a. attribute_text (spelled a.name) a.value) (declaring (codes "ds") ds_space ∷ having (codes "Algorithm") name ∷ []) ++ codes ">"
    → start_text (Exclusive []) around (tag_named (codes "ds") (codes "DigestValue") []) ≡ codes "<ds:DigestValue" ++ flat_map (λ a. attribute_text (spelled a.name) a.value) (declaring (codes "ds") ds_space ∷ []) ++ codes ">"
    → nodes_text (Exclusive []) around (digest_with [] name value) ≡ written (digest_with (declaring (codes "ds") ds_space ∷ []) name value)
digest_text around name value s t =
    let method = element_text around (prefixed (codes "ds") (codes "DigestMethod")) (having (codes "Algorithm") name ∷ []) (declaring (codes "ds") ds_space ∷ having (codes "Algorithm") name ∷ []) no_nodes no_nodes s refl in
    let told = element_text around (prefixed (codes "ds") (codes "DigestValue")) [] (declaring (codes "ds") ds_space ∷ []) (encoded value) (encoded value) t
    (plain_text (inside (Exclusive []) around (tag_named (codes "ds") (codes "DigestValue") [])) (encode_of standard value)) in
    λ i. method i ++ (told i ++ [])

alone_text : (draft : Draft) (value : List ℕ)
    → nodes_text (Exclusive []) (apex_of draft) (properties_with [] [] value draft) ≡ written (properties_with (declaring (codes "ds") ds_space ∷ []) (declaring (codes "xades") xades_space ∷ []) value draft)
alone_text draft value =
    let ds : List Attribute = declaring (codes "ds") ds_space ∷ [] in
    let name : List ℕ = digest_name draft.digest in
    let in_signature : Around = inside (Exclusive []) (in_properties draft) (tag_named (codes "xades") (codes "SignedSignatureProperties") []) in
    let in_certificate : Around = inside (Exclusive []) in_signature (tag_named (codes "xades") (codes "SigningCertificateV2") []) in
    let in_cert : Around = inside (Exclusive []) in_certificate (tag_named (codes "xades") (codes "Cert") []) in
    let in_digest : Around = inside (Exclusive []) in_cert (tag_named (codes "xades") (codes "CertDigest") []) in
    let told : Nodes = digest_with [] name value in
    let shown : Nodes = digest_with ds name value in
    let digest = digest_text in_digest name value refl refl in
    let certificate_digest = element_text in_cert (prefixed (codes "xades") (codes "CertDigest")) [] [] told shown refl digest in
    let cert = element_text in_certificate (prefixed (codes "xades") (codes "Cert")) [] [] (xades_element (codes "CertDigest") [] told) (xades_element (codes "CertDigest") [] shown) refl (λ i. certificate_digest i ++ []) in
    let certificate = element_text in_signature (prefixed (codes "xades") (codes "SigningCertificateV2")) [] [] (xades_element (codes "Cert") [] (xades_element (codes "CertDigest") [] told)) (xades_element (codes "Cert") [] (xades_element (codes "CertDigest") [] shown)) refl (λ i. cert i ++ []) in
    let time = element_text in_signature (prefixed (codes "xades") (codes "SigningTime")) [] [] (text draft.time) (text draft.time) refl (plain_text (inside (Exclusive []) in_signature (tag_named (codes "xades") (codes "SigningTime") [])) draft.time) in
    let signature = element_text (in_properties draft) (prefixed (codes "xades") (codes "SignedSignatureProperties")) [] []
    (xades_element (codes "SigningTime") [] (text draft.time) then xades_element (codes "SigningCertificateV2") [] (xades_element (codes "Cert") [] (xades_element (codes "CertDigest") [] told)))
    (xades_element (codes "SigningTime") [] (text draft.time) then xades_element (codes "SigningCertificateV2") [] (xades_element (codes "Cert") [] (xades_element (codes "CertDigest") [] shown)))
    refl (λ i. time i ++ (certificate i ++ [])) in
    let objects = element_text (in_properties draft) (prefixed (codes "xades") (codes "SignedDataObjectProperties")) [] [] (formats_from draft 1 draft.references) (formats_from draft 1 draft.references) refl (formats_text draft 1 draft.references) in
    λ i. element_text (apex_of draft) (prefixed (codes "xades") (codes "SignedProperties")) (having (codes "Id") (properties_id draft.id) ∷ [])
    (declaring (codes "xades") xades_space ∷ having (codes "Id") (properties_id draft.id) ∷ [])
    (xades_element (codes "SignedSignatureProperties") [] (xades_element (codes "SigningTime") [] (text draft.time) then xades_element (codes "SigningCertificateV2") [] (xades_element (codes "Cert") [] (xades_element (codes "CertDigest") [] told)))
    then xades_element (codes "SignedDataObjectProperties") [] (formats_from draft 1 draft.references))
    (xades_element (codes "SignedSignatureProperties") [] (xades_element (codes "SigningTime") [] (text draft.time) then xades_element (codes "SigningCertificateV2") [] (xades_element (codes "Cert") [] (xades_element (codes "CertDigest") [] shown)))
    then xades_element (codes "SignedDataObjectProperties") [] (formats_from draft 1 draft.references))
    refl (λ j. signature j ++ (objects j ++ [])) i ++ []

-- so the octets of the signed properties are what is written of them alone
pub alone_octets : (digest : List ℕ → List ℕ) (draft : Draft)
    → properties_octets digest draft ≡ written_octets (properties_with (declaring (codes "ds") ds_space ∷ []) (declaring (codes "xades") xades_space ∷ []) (digest (first_certificate draft)) draft)
alone_octets digest draft =
    ap encode_utf8_all (subtree_text properties_path (signature_nodes digest (λ uri. []) [] draft) (xades_named (codes "SignedProperties")) (properties_attributes draft) (properties_inner digest draft) tt refl (properties_ours digest draft)
    ∙ alone_text draft (digest (first_certificate draft)))
