-- The parts of the signature that is prepared: XML Signature 1.1, "Core Signature Syntax".
use Rattle.std.specs.Prelude.{ℕ, List, [], ◌∷◌, codes}
use Rattle.document_model.specs.Methods.{exclusive_name}
use Rattle.document_model.specs.Tree.{Nodes}
use Rattle.signature_model.specs.Vocabulary.{xades_space, fragment}
use Rattle.signature_model.specs.Fragments.{having, declaring, ds_element, xades_element, encoded, ◌then◌, each}
use Rattle.signature_model.specs.Prepared.{Draft, algorithm, references_from, last_reference}
use Rattle.signature_drafts.specs.Properties.{properties_with}

-- by the digests of the octets that URIs name, and of the signed properties
abbrev pub signed_info_nodes : (List ℕ → List ℕ) → List ℕ → Draft → Nodes
signed_info_nodes digest_of value draft = ds_element (codes "SignedInfo") []
    (algorithm (codes "CanonicalizationMethod") exclusive_name then algorithm (codes "SignatureMethod") draft.method
    then references_from draft digest_of 1 draft.references then last_reference draft value)

abbrev pub certificate_nodes : List (List ℕ) → Nodes
certificate_nodes certificates = each (λ octets. ds_element (codes "X509Certificate") [] (encoded octets)) certificates

abbrev pub key_info_nodes : Draft → Nodes
key_info_nodes draft = ds_element (codes "KeyInfo") [] (ds_element (codes "X509Data") [] (certificate_nodes draft.certificates))

-- by the digest of the first certificate
abbrev pub object_nodes : List ℕ → Draft → Nodes
object_nodes value draft = ds_element (codes "Object") []
    (xades_element (codes "QualifyingProperties") (declaring (codes "xades") xades_space ∷ having (codes "Target") (fragment draft.id) ∷ [])
    (properties_with [] [] value draft))
