-- Signed properties as they are written in the signature, where the prefixes are declared, or alone, where each element that is the first
-- to use one declares it: Exclusive XML Canonicalization 1.0, "Specification of Exclusive XML Canonicalization".
use Rattle.std.specs.Prelude.{ℕ, List, [], ◌∷◌, ◌++◌, flat_map, codes, encode_utf8_all}
use Rattle.document_model.specs.Canonical.{attribute_text}
use Rattle.document_model.specs.Items.{Attribute}
use Rattle.document_model.specs.Names.{spelled}
use Rattle.document_model.specs.Tree.{Nodes, no_nodes}
use Rattle.signature_model.specs.Vocabulary.{digest_name}
use Rattle.signature_model.specs.Fragments.{having, ds_element, xades_element, text, encoded, ◌then◌}
use Rattle.signature_model.specs.Prepared.{Draft, properties_id, formats_from}

-- attributes as they are written
abbrev pub attributes_octets : List Attribute → List ℕ
attributes_octets attributes = encode_utf8_all (flat_map (λ a. attribute_text (spelled a.name) a.value) attributes)

-- a digest with its algorithm, whose elements have some declarations
abbrev pub digest_with : List Attribute → List ℕ → List ℕ → Nodes
digest_with ds name value =
    ds_element (codes "DigestMethod") (ds ++ having (codes "Algorithm") name ∷ []) no_nodes
    then ds_element (codes "DigestValue") ds (encoded value)

-- the signed properties of a draft, by the digest of its first certificate, whose elements have some declarations
abbrev pub properties_with : List Attribute → List Attribute → List ℕ → Draft → Nodes
properties_with ds xades value draft =
    xades_element (codes "SignedProperties") (xades ++ having (codes "Id") (properties_id draft.id) ∷ [])
    (xades_element (codes "SignedSignatureProperties") []
    (xades_element (codes "SigningTime") [] (text draft.time)
    then xades_element (codes "SigningCertificateV2") [] (xades_element (codes "Cert") []
    (xades_element (codes "CertDigest") [] (digest_with ds (digest_name draft.digest) value))))
    then xades_element (codes "SignedDataObjectProperties") [] (formats_from draft 1 draft.references))
