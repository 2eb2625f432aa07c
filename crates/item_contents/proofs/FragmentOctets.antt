-- Items and the elements around them in octets.
use Rattle.std.proofs.Common.{◌≡◌, ℕ, true, false, List, [], ◌∷◌, ◌++◌, sym, ◌∙◌, append_assoc, codes}
use Rattle.std.proofs.lemmas.List.{append-nil}
use Rattle.std.specs.Char.{encode_utf8}
use Rattle.document_model.specs.Characters.{is_empty}
use Rattle.document_model.specs.Tree.{Nodes}
use Rattle.signature_model.specs.Vocabulary.{xades_space, xadesv141_space}
use Rattle.signature_model.specs.Fragments.{written_octets, prefixed, declaring, xades_element, encoded, ◌then◌, exclusive_method, stamp_fragment, archive_fragment, certificates_fragment, lists_fragment, data_fragment, in_property_list}
use Rattle.signature_drafts.proofs.Written.{element_octets, joined_octets}
use Rattle.item_contents.specs.Contents.{certificate_elements, list_elements}
use Rattle.item_contents.specs.Hosts.{in_host, opening, closing}
use Rattle.item_contents.specs.declared.hosts.Host.{Host}
use Rattle.item_contents.specs.declared.hosts.Host.TheVariants.{UnsignedSignatureProperties, UnsignedProperties, QualifyingProperties}

-- one element that holds two, the first without what it holds
regroup : (a b c d e f : List ℕ) → a ++ ((b ++ (c ++ (d ++ e))) ++ f) ≡ (a ++ (b ++ c)) ++ (d ++ (e ++ f))
regroup a b c d e f = simp append_assoc

-- one element in another
within : (a b c d e : List ℕ) → a ++ ((b ++ (c ++ d)) ++ e) ≡ (a ++ b) ++ (c ++ (d ++ e))
within a b c d e = simp append_assoc

pub stamp_octets : (token : List ℕ) → written_octets (stamp_fragment token)
    ≡ codes "<xades:SignatureTimeStamp xmlns:xades=\"http://uri.etsi.org/01903/v1.3.2#\"><ds:CanonicalizationMethod xmlns:ds=\"http://www.w3.org/2000/09/xmldsig#\" Algorithm=\"http://www.w3.org/2001/10/xml-exc-c14n#\"></ds:CanonicalizationMethod><xades:EncapsulatedTimeStamp>"
    ++ (written_octets (encoded token) ++ codes "</xades:EncapsulatedTimeStamp></xades:SignatureTimeStamp>")
unfolding encode_utf8
stamp_octets token =
    let front : List ℕ = codes "<xades:SignatureTimeStamp xmlns:xades=\"http://uri.etsi.org/01903/v1.3.2#\">" in
    let method : List ℕ = codes "<ds:CanonicalizationMethod xmlns:ds=\"http://www.w3.org/2000/09/xmldsig#\" Algorithm=\"http://www.w3.org/2001/10/xml-exc-c14n#\"></ds:CanonicalizationMethod>" in
    let end : List ℕ = codes "</xades:SignatureTimeStamp>" in
    let inner : Nodes = xades_element (codes "EncapsulatedTimeStamp") [] (encoded token) in
    element_octets (prefixed (codes "xades") (codes "SignatureTimeStamp")) (declaring (codes "xades") xades_space ∷ []) (exclusive_method then inner)
    ∙ (λ i. front ++ (joined_octets exclusive_method inner i ++ end))
    ∙ (λ i. front ++ ((method ++ element_octets (prefixed (codes "xades") (codes "EncapsulatedTimeStamp")) [] (encoded token) i) ++ end))
    ∙ regroup front method (codes "<xades:EncapsulatedTimeStamp>") (written_octets (encoded token)) (codes "</xades:EncapsulatedTimeStamp>") end

pub archive_octets : (token : List ℕ) → written_octets (archive_fragment token)
    ≡ codes "<xadesv141:ArchiveTimeStamp xmlns:xadesv141=\"http://uri.etsi.org/01903/v1.4.1#\"><ds:CanonicalizationMethod xmlns:ds=\"http://www.w3.org/2000/09/xmldsig#\" Algorithm=\"http://www.w3.org/2001/10/xml-exc-c14n#\"></ds:CanonicalizationMethod><xades:EncapsulatedTimeStamp xmlns:xades=\"http://uri.etsi.org/01903/v1.3.2#\">"
    ++ (written_octets (encoded token) ++ codes "</xades:EncapsulatedTimeStamp></xadesv141:ArchiveTimeStamp>")
unfolding encode_utf8
archive_octets token =
    let front : List ℕ = codes "<xadesv141:ArchiveTimeStamp xmlns:xadesv141=\"http://uri.etsi.org/01903/v1.4.1#\">" in
    let method : List ℕ = codes "<ds:CanonicalizationMethod xmlns:ds=\"http://www.w3.org/2000/09/xmldsig#\" Algorithm=\"http://www.w3.org/2001/10/xml-exc-c14n#\"></ds:CanonicalizationMethod>" in
    let end : List ℕ = codes "</xadesv141:ArchiveTimeStamp>" in
    let inner : Nodes = xades_element (codes "EncapsulatedTimeStamp") (declaring (codes "xades") xades_space ∷ []) (encoded token) in
    element_octets (prefixed (codes "xadesv141") (codes "ArchiveTimeStamp")) (declaring (codes "xadesv141") xadesv141_space ∷ []) (exclusive_method then inner)
    ∙ (λ i. front ++ (joined_octets exclusive_method inner i ++ end))
    ∙ (λ i. front ++ ((method ++ element_octets (prefixed (codes "xades") (codes "EncapsulatedTimeStamp")) (declaring (codes "xades") xades_space ∷ []) (encoded token) i) ++ end))
    ∙ regroup front method (codes "<xades:EncapsulatedTimeStamp xmlns:xades=\"http://uri.etsi.org/01903/v1.3.2#\">") (written_octets (encoded token)) (codes "</xades:EncapsulatedTimeStamp>") end

pub certificate_octets : (octets : List ℕ) → written_octets (xades_element (codes "EncapsulatedX509Certificate") [] (encoded octets))
    ≡ codes "<xades:EncapsulatedX509Certificate>" ++ (written_octets (encoded octets) ++ codes "</xades:EncapsulatedX509Certificate>")
unfolding encode_utf8
certificate_octets octets = element_octets (prefixed (codes "xades") (codes "EncapsulatedX509Certificate")) [] (encoded octets)

pub list_octets : (octets : List ℕ) → written_octets (xades_element (codes "EncapsulatedCRLValue") [] (encoded octets))
    ≡ codes "<xades:EncapsulatedCRLValue>" ++ (written_octets (encoded octets) ++ codes "</xades:EncapsulatedCRLValue>")
unfolding encode_utf8
list_octets octets = element_octets (prefixed (codes "xades") (codes "EncapsulatedCRLValue")) [] (encoded octets)

pub certificates_octets : (all : List (List ℕ)) → is_empty all ≡ false → written_octets (certificates_fragment all)
    ≡ codes "<xades:CertificateValues xmlns:xades=\"http://uri.etsi.org/01903/v1.3.2#\">" ++ (written_octets (certificate_elements all) ++ codes "</xades:CertificateValues>")
unfolding encode_utf8
certificates_octets [] e = cc
certificates_octets (x ∷ xs) e = element_octets (prefixed (codes "xades") (codes "CertificateValues")) (declaring (codes "xades") xades_space ∷ []) (certificate_elements (x ∷ xs))

pub lists_octets : (all : List (List ℕ)) → is_empty all ≡ false → written_octets (lists_fragment all)
    ≡ codes "<xades:RevocationValues xmlns:xades=\"http://uri.etsi.org/01903/v1.3.2#\"><xades:CRLValues>" ++ (written_octets (list_elements all) ++ codes "</xades:CRLValues></xades:RevocationValues>")
unfolding encode_utf8
lists_octets [] e = cc
lists_octets (x ∷ xs) e =
    let front : List ℕ = codes "<xades:RevocationValues xmlns:xades=\"http://uri.etsi.org/01903/v1.3.2#\">" in
    let end : List ℕ = codes "</xades:RevocationValues>" in
    element_octets (prefixed (codes "xades") (codes "RevocationValues")) (declaring (codes "xades") xades_space ∷ []) (xades_element (codes "CRLValues") [] (list_elements (x ∷ xs)))
    ∙ (λ i. front ++ (element_octets (prefixed (codes "xades") (codes "CRLValues")) [] (list_elements (x ∷ xs)) i ++ end))
    ∙ within front (codes "<xades:CRLValues>") (written_octets (list_elements (x ∷ xs))) (codes "</xades:CRLValues>") end

pub values_octets : (certificates lists : List (List ℕ)) → written_octets (data_fragment true certificates lists)
    ≡ written_octets (certificates_fragment certificates) ++ written_octets (lists_fragment lists)
values_octets certificates lists = joined_octets (certificates_fragment certificates) (lists_fragment lists)

pub data_octets : (certificates lists : List (List ℕ)) → written_octets (data_fragment false certificates lists)
    ≡ codes "<xadesv141:TimeStampValidationData xmlns:xadesv141=\"http://uri.etsi.org/01903/v1.4.1#\">" ++ (written_octets (data_fragment true certificates lists) ++ codes "</xadesv141:TimeStampValidationData>")
unfolding encode_utf8
data_octets certificates lists = element_octets (prefixed (codes "xadesv141") (codes "TimeStampValidationData")) (declaring (codes "xadesv141") xadesv141_space ∷ []) (data_fragment true certificates lists)

-- a property in its host
pub host_octets : (host : Host) (nodes : Nodes) → written_octets (in_host host nodes) ≡ opening host ++ (written_octets nodes ++ closing host)
unfolding encode_utf8
host_octets UnsignedSignatureProperties nodes = sym (append-nil (written_octets nodes))
host_octets UnsignedProperties nodes = element_octets (prefixed (codes "xades") (codes "UnsignedSignatureProperties")) (declaring (codes "xades") xades_space ∷ []) nodes
host_octets QualifyingProperties nodes =
    let front : List ℕ = codes "<xades:UnsignedProperties xmlns:xades=\"http://uri.etsi.org/01903/v1.3.2#\">" in
    let end : List ℕ = codes "</xades:UnsignedProperties>" in
    element_octets (prefixed (codes "xades") (codes "UnsignedProperties")) (declaring (codes "xades") xades_space ∷ []) (in_property_list nodes)
    ∙ (λ i. front ++ (element_octets (prefixed (codes "xades") (codes "UnsignedSignatureProperties")) (declaring (codes "xades") xades_space ∷ []) nodes i ++ end))
    ∙ within front (codes "<xades:UnsignedSignatureProperties xmlns:xades=\"http://uri.etsi.org/01903/v1.3.2#\">") (written_octets nodes) (codes "</xades:UnsignedSignatureProperties>") end
