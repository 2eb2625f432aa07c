-- A small document with a signature, with stand-ins for values, certificates and digests. The worked cases differ from it in a few places.
use Rattle.std.specs.Prelude.{ℕ, if◌then◌else◌, Some, None, List, [], ◌∷◌, ◌++◌, drop, length, codes, nat_eq}
use Rattle.std.specs.List.{starts_with}
use Rattle.document_model.specs.Characters.{◌is◌}
use Rattle.document_model.specs.Tree.{Nodes}
use Rattle.document_model.specs.Scopes.{tags_at}
use Rattle.signature_model.specs.Spots.{Spot}
use Rattle.signature_model.specs.Chains.{Handed}

-- a text with the first place at which a piece stands changed
infixl 40 ◌changing◌into◌
abbrev pub ◌changing◌into◌ : List ℕ → List ℕ → List ℕ → List ℕ
[] changing old into new = []
(c ∷ cs) changing old into new = if starts_with nat_eq (c ∷ cs) old then new ++ drop (length old) (c ∷ cs) else c ∷ (cs changing old into new)

abbrev pub data_reference : List ℕ
data_reference = codes "<ds:Reference Id=\"s-r1\" URI=\"#d\"><ds:Transforms><ds:Transform Algorithm=\"http://www.w3.org/2000/09/xmldsig#base64\"></ds:Transform></ds:Transforms><ds:DigestMethod Algorithm=\"http://www.w3.org/2001/04/xmlenc#sha256\"/><ds:DigestValue>AAAA</ds:DigestValue></ds:Reference>"

abbrev pub properties_reference : List ℕ
properties_reference = codes "<ds:Reference Type=\"http://uri.etsi.org/01903#SignedProperties\" URI=\"#s-sp\"><ds:DigestMethod Algorithm=\"http://www.w3.org/2001/04/xmlenc#sha256\"/><ds:DigestValue>AAAA</ds:DigestValue></ds:Reference>"

abbrev pub signed_info : List ℕ
signed_info = codes "<ds:SignedInfo><ds:CanonicalizationMethod Algorithm=\"http://www.w3.org/2001/10/xml-exc-c14n#\"/><ds:SignatureMethod Algorithm=\"urn:m\"/>"
    ++ data_reference
    ++ properties_reference
    ++ codes "</ds:SignedInfo>"

abbrev pub cert : List ℕ
cert = codes "<xades:Cert><xades:CertDigest><ds:DigestMethod Algorithm=\"http://www.w3.org/2001/04/xmlenc#sha256\"/><ds:DigestValue>9U+W2cYhO414WHxQCf9YM19O/CSVLvU/LBr7U4j+2mk=</ds:DigestValue></xades:CertDigest></xades:Cert>"

abbrev pub signed_signature_properties : List ℕ
signed_signature_properties = codes "<xades:SignedSignatureProperties><xades:SigningTime>T</xades:SigningTime><xades:SigningCertificateV2>"
    ++ cert
    ++ codes "</xades:SigningCertificateV2></xades:SignedSignatureProperties>"

abbrev pub signed_properties : List ℕ
signed_properties = codes "<xades:SignedProperties Id=\"s-sp\">"
    ++ signed_signature_properties
    ++ codes "<xades:SignedDataObjectProperties><xades:DataObjectFormat ObjectReference=\"#s-r1\"><xades:MimeType>m</xades:MimeType></xades:DataObjectFormat></xades:SignedDataObjectProperties></xades:SignedProperties>"

-- with signed properties alone, and with unsigned properties that are an empty tag
abbrev pub plain : List ℕ
plain = codes "<r><d Id=\"d\">aGVs\nbG8=</d><ds:Signature xmlns:ds=\"http://www.w3.org/2000/09/xmldsig#\" Id=\"s\">"
    ++ signed_info
    ++ codes "<ds:SignatureValue>AAAA</ds:SignatureValue><ds:KeyInfo><ds:X509Data><ds:X509Certificate>MAE=</ds:X509Certificate></ds:X509Data></ds:KeyInfo><ds:Object><xades:QualifyingProperties xmlns:xades=\"http://uri.etsi.org/01903/v1.3.2#\" Target=\"#s\">"
    ++ signed_properties
    ++ codes "</xades:QualifyingProperties></ds:Object></ds:Signature></r>"

abbrev pub whole : List ℕ
whole = plain changing codes "</xades:SignedProperties>" into codes "</xades:SignedProperties><xades:UnsignedProperties />"

-- the signature of these documents
abbrev pub signature : Nodes → Spot
signature document = record { path = 0 ∷ 1 ∷ []; tags = tags_at document (0 ∷ 1 ∷ []) }

-- the octets that are handed in by the name `e`, and by no other
abbrev pub handed_as_e : List ℕ → Handed
handed_as_e octets name = if name is codes "e" then Some octets else None
