-- What the signatures of small documents cover, and the octets of the next stamp.
use Rattle.std.specs.Prelude.{◌≡◌, refl, Some, None, [], ◌∷◌, codes, true, false}
use Rattle.std.specs.Str.{is_utf8, chars}
use Rattle.std.specs.Char.{encode_utf8}
use Rattle.base64.proofs.OnLiterals.{base64_on_literals}
use Rattle.document_model.specs.Documents.{document_of}
use Rattle.document_model.specs.Items.{piece_at}
use Rattle.document_model.specs.Scopes.{is_sound}
use Rattle.document_model.specs.Canonical.{text_of}
use Rattle.signature_model.specs.Parts.{is_signed, SignatureStamp, ArchiveStamp}
use Rattle.signature_model.specs.Chains.{Handed}
use Rattle.signature_model.specs.Octets.{next_octets}
use Rattle.signature_model.specs.Covers.{Digested, Signed, Stamped, covers, self_cover}
use Rattle.signature_examples.proofs.SmallDocument.{plain, whole, ◌changing◌into◌, signature, handed_as_e}

abbrev handed : Handed
handed = handed_as_e (codes "YWJj IA==")

covers_unsigned : let document = document_of (whole
    changing codes "<ds:Reference Id=\"s-r1\" URI=\"#d\"><ds:Transforms><ds:Transform Algorithm=\"http://www.w3.org/2000/09/xmldsig#base64\">" into codes "<ds:Reference Id=\"s-r1\" URI=\"\"><ds:Transforms><ds:Transform Algorithm=\"http://www.w3.org/2000/09/xmldsig#enveloped-signature\"></ds:Transform><ds:Transform Algorithm=\"http://www.w3.org/2001/10/xml-exc-c14n#\">"
    changing codes "<ds:SignatureValue>AAAA" into codes "<ds:SignatureValue>") in covers handed document (signature document)
    ≡ Digested 1 (codes "<r><d Id=\"d\">aGVs\nbG8=</d></r>")
    ∷ Digested 2 (codes "<xades:SignedProperties xmlns:ds=\"http://www.w3.org/2000/09/xmldsig#\" xmlns:xades=\"http://uri.etsi.org/01903/v1.3.2#\" Id=\"s-sp\"><xades:SignedSignatureProperties><xades:SigningTime>T</xades:SigningTime><xades:SigningCertificateV2><xades:Cert><xades:CertDigest><ds:DigestMethod Algorithm=\"http://www.w3.org/2001/04/xmlenc#sha256\"></ds:DigestMethod><ds:DigestValue>9U+W2cYhO414WHxQCf9YM19O/CSVLvU/LBr7U4j+2mk=</ds:DigestValue></xades:CertDigest></xades:Cert></xades:SigningCertificateV2></xades:SignedSignatureProperties><xades:SignedDataObjectProperties><xades:DataObjectFormat ObjectReference=\"#s-r1\"><xades:MimeType>m</xades:MimeType></xades:DataObjectFormat></xades:SignedDataObjectProperties></xades:SignedProperties>")
    ∷ []
unfolding is_utf8 chars encode_utf8 document_of piece_at is_sound text_of base64_on_literals
covers_unsigned = refl

cover_unsigned : let document = document_of (whole
    changing codes "<ds:Reference Id=\"s-r1\" URI=\"#d\"><ds:Transforms><ds:Transform Algorithm=\"http://www.w3.org/2000/09/xmldsig#base64\">" into codes "<ds:Reference Id=\"s-r1\" URI=\"\"><ds:Transforms><ds:Transform Algorithm=\"http://www.w3.org/2000/09/xmldsig#enveloped-signature\"></ds:Transform><ds:Transform Algorithm=\"http://www.w3.org/2001/10/xml-exc-c14n#\">"
    changing codes "<ds:SignatureValue>AAAA" into codes "<ds:SignatureValue>") in self_cover document (signature document) ≡ None
unfolding is_utf8 chars encode_utf8 document_of piece_at is_sound text_of base64_on_literals
cover_unsigned = refl

covers_signed : let document = document_of (whole
    changing codes "<ds:Reference Id=\"s-r1\" URI=\"#d\"><ds:Transforms><ds:Transform Algorithm=\"http://www.w3.org/2000/09/xmldsig#base64\">" into codes "<ds:Reference Id=\"s-r1\" URI=\"\"><ds:Transforms><ds:Transform Algorithm=\"http://www.w3.org/2000/09/xmldsig#enveloped-signature\"></ds:Transform><ds:Transform Algorithm=\"http://www.w3.org/2001/10/xml-exc-c14n#\">") in covers handed document (signature document)
    ≡ Digested 1 (codes "<r><d Id=\"d\">aGVs\nbG8=</d></r>")
    ∷ Digested 2 (codes "<xades:SignedProperties xmlns:ds=\"http://www.w3.org/2000/09/xmldsig#\" xmlns:xades=\"http://uri.etsi.org/01903/v1.3.2#\" Id=\"s-sp\"><xades:SignedSignatureProperties><xades:SigningTime>T</xades:SigningTime><xades:SigningCertificateV2><xades:Cert><xades:CertDigest><ds:DigestMethod Algorithm=\"http://www.w3.org/2001/04/xmlenc#sha256\"></ds:DigestMethod><ds:DigestValue>9U+W2cYhO414WHxQCf9YM19O/CSVLvU/LBr7U4j+2mk=</ds:DigestValue></xades:CertDigest></xades:Cert></xades:SigningCertificateV2></xades:SignedSignatureProperties><xades:SignedDataObjectProperties><xades:DataObjectFormat ObjectReference=\"#s-r1\"><xades:MimeType>m</xades:MimeType></xades:DataObjectFormat></xades:SignedDataObjectProperties></xades:SignedProperties>")
    ∷ Signed (0 ∷ 0 ∷ 0 ∷ []) (codes "<ds:SignedInfo xmlns:ds=\"http://www.w3.org/2000/09/xmldsig#\"><ds:CanonicalizationMethod Algorithm=\"http://www.w3.org/2001/10/xml-exc-c14n#\"></ds:CanonicalizationMethod><ds:SignatureMethod Algorithm=\"urn:m\"></ds:SignatureMethod><ds:Reference Id=\"s-r1\" URI=\"\"><ds:Transforms><ds:Transform Algorithm=\"http://www.w3.org/2000/09/xmldsig#enveloped-signature\"></ds:Transform><ds:Transform Algorithm=\"http://www.w3.org/2001/10/xml-exc-c14n#\"></ds:Transform></ds:Transforms><ds:DigestMethod Algorithm=\"http://www.w3.org/2001/04/xmlenc#sha256\"></ds:DigestMethod><ds:DigestValue>AAAA</ds:DigestValue></ds:Reference><ds:Reference Type=\"http://uri.etsi.org/01903#SignedProperties\" URI=\"#s-sp\"><ds:DigestMethod Algorithm=\"http://www.w3.org/2001/04/xmlenc#sha256\"></ds:DigestMethod><ds:DigestValue>AAAA</ds:DigestValue></ds:Reference></ds:SignedInfo>")
    ∷ []
unfolding is_utf8 chars encode_utf8 document_of piece_at is_sound text_of base64_on_literals
covers_signed = refl

cover_signed : let document = document_of (whole
    changing codes "<ds:Reference Id=\"s-r1\" URI=\"#d\"><ds:Transforms><ds:Transform Algorithm=\"http://www.w3.org/2000/09/xmldsig#base64\">" into codes "<ds:Reference Id=\"s-r1\" URI=\"\"><ds:Transforms><ds:Transform Algorithm=\"http://www.w3.org/2000/09/xmldsig#enveloped-signature\"></ds:Transform><ds:Transform Algorithm=\"http://www.w3.org/2001/10/xml-exc-c14n#\">") in self_cover document (signature document) ≡ None
unfolding is_utf8 chars encode_utf8 document_of piece_at is_sound text_of base64_on_literals
cover_signed = refl

next_signed_SignatureStamp : let document = document_of (whole
    changing codes "<ds:Reference Id=\"s-r1\" URI=\"#d\"><ds:Transforms><ds:Transform Algorithm=\"http://www.w3.org/2000/09/xmldsig#base64\">" into codes "<ds:Reference Id=\"s-r1\" URI=\"\"><ds:Transforms><ds:Transform Algorithm=\"http://www.w3.org/2000/09/xmldsig#enveloped-signature\"></ds:Transform><ds:Transform Algorithm=\"http://www.w3.org/2001/10/xml-exc-c14n#\">") in next_octets SignatureStamp handed document (signature document)
    ≡ codes "<ds:SignatureValue xmlns:ds=\"http://www.w3.org/2000/09/xmldsig#\">AAAA</ds:SignatureValue>"
unfolding is_utf8 chars encode_utf8 document_of piece_at is_sound text_of base64_on_literals
next_signed_SignatureStamp = refl

next_signed_ArchiveStamp : let document = document_of (whole
    changing codes "<ds:Reference Id=\"s-r1\" URI=\"#d\"><ds:Transforms><ds:Transform Algorithm=\"http://www.w3.org/2000/09/xmldsig#base64\">" into codes "<ds:Reference Id=\"s-r1\" URI=\"\"><ds:Transforms><ds:Transform Algorithm=\"http://www.w3.org/2000/09/xmldsig#enveloped-signature\"></ds:Transform><ds:Transform Algorithm=\"http://www.w3.org/2001/10/xml-exc-c14n#\">") in next_octets ArchiveStamp handed document (signature document)
    ≡ codes "<r><d Id=\"d\">aGVs\nbG8=</d></r><xades:SignedProperties xmlns:xades=\"http://uri.etsi.org/01903/v1.3.2#\" Id=\"s-sp\"><xades:SignedSignatureProperties><xades:SigningTime>T</xades:SigningTime><xades:SigningCertificateV2><xades:Cert><xades:CertDigest><ds:DigestMethod xmlns:ds=\"http://www.w3.org/2000/09/xmldsig#\" Algorithm=\"http://www.w3.org/2001/04/xmlenc#sha256\"></ds:DigestMethod><ds:DigestValue xmlns:ds=\"http://www.w3.org/2000/09/xmldsig#\">9U+W2cYhO414WHxQCf9YM19O/CSVLvU/LBr7U4j+2mk=</ds:DigestValue></xades:CertDigest></xades:Cert></xades:SigningCertificateV2></xades:SignedSignatureProperties><xades:SignedDataObjectProperties><xades:DataObjectFormat ObjectReference=\"#s-r1\"><xades:MimeType>m</xades:MimeType></xades:DataObjectFormat></xades:SignedDataObjectProperties></xades:SignedProperties><ds:SignedInfo xmlns:ds=\"http://www.w3.org/2000/09/xmldsig#\"><ds:CanonicalizationMethod Algorithm=\"http://www.w3.org/2001/10/xml-exc-c14n#\"></ds:CanonicalizationMethod><ds:SignatureMethod Algorithm=\"urn:m\"></ds:SignatureMethod><ds:Reference Id=\"s-r1\" URI=\"\"><ds:Transforms><ds:Transform Algorithm=\"http://www.w3.org/2000/09/xmldsig#enveloped-signature\"></ds:Transform><ds:Transform Algorithm=\"http://www.w3.org/2001/10/xml-exc-c14n#\"></ds:Transform></ds:Transforms><ds:DigestMethod Algorithm=\"http://www.w3.org/2001/04/xmlenc#sha256\"></ds:DigestMethod><ds:DigestValue>AAAA</ds:DigestValue></ds:Reference><ds:Reference Type=\"http://uri.etsi.org/01903#SignedProperties\" URI=\"#s-sp\"><ds:DigestMethod Algorithm=\"http://www.w3.org/2001/04/xmlenc#sha256\"></ds:DigestMethod><ds:DigestValue>AAAA</ds:DigestValue></ds:Reference></ds:SignedInfo><ds:SignatureValue xmlns:ds=\"http://www.w3.org/2000/09/xmldsig#\">AAAA</ds:SignatureValue><ds:KeyInfo xmlns:ds=\"http://www.w3.org/2000/09/xmldsig#\"><ds:X509Data><ds:X509Certificate>MAE=</ds:X509Certificate></ds:X509Data></ds:KeyInfo>"
unfolding is_utf8 chars encode_utf8 document_of piece_at is_sound text_of base64_on_literals
next_signed_ArchiveStamp = refl

covers_base64 : let document = document_of whole in covers handed document (signature document)
    ≡ Digested 1 (codes "hello")
    ∷ Digested 2 (codes "<xades:SignedProperties xmlns:ds=\"http://www.w3.org/2000/09/xmldsig#\" xmlns:xades=\"http://uri.etsi.org/01903/v1.3.2#\" Id=\"s-sp\"><xades:SignedSignatureProperties><xades:SigningTime>T</xades:SigningTime><xades:SigningCertificateV2><xades:Cert><xades:CertDigest><ds:DigestMethod Algorithm=\"http://www.w3.org/2001/04/xmlenc#sha256\"></ds:DigestMethod><ds:DigestValue>9U+W2cYhO414WHxQCf9YM19O/CSVLvU/LBr7U4j+2mk=</ds:DigestValue></xades:CertDigest></xades:Cert></xades:SigningCertificateV2></xades:SignedSignatureProperties><xades:SignedDataObjectProperties><xades:DataObjectFormat ObjectReference=\"#s-r1\"><xades:MimeType>m</xades:MimeType></xades:DataObjectFormat></xades:SignedDataObjectProperties></xades:SignedProperties>")
    ∷ Signed (0 ∷ 0 ∷ 0 ∷ []) (codes "<ds:SignedInfo xmlns:ds=\"http://www.w3.org/2000/09/xmldsig#\"><ds:CanonicalizationMethod Algorithm=\"http://www.w3.org/2001/10/xml-exc-c14n#\"></ds:CanonicalizationMethod><ds:SignatureMethod Algorithm=\"urn:m\"></ds:SignatureMethod><ds:Reference Id=\"s-r1\" URI=\"#d\"><ds:Transforms><ds:Transform Algorithm=\"http://www.w3.org/2000/09/xmldsig#base64\"></ds:Transform></ds:Transforms><ds:DigestMethod Algorithm=\"http://www.w3.org/2001/04/xmlenc#sha256\"></ds:DigestMethod><ds:DigestValue>AAAA</ds:DigestValue></ds:Reference><ds:Reference Type=\"http://uri.etsi.org/01903#SignedProperties\" URI=\"#s-sp\"><ds:DigestMethod Algorithm=\"http://www.w3.org/2001/04/xmlenc#sha256\"></ds:DigestMethod><ds:DigestValue>AAAA</ds:DigestValue></ds:Reference></ds:SignedInfo>")
    ∷ []
unfolding is_utf8 chars encode_utf8 document_of piece_at is_sound text_of base64_on_literals
covers_base64 = refl

cover_base64 : let document = document_of whole in self_cover document (signature document) ≡ None
unfolding is_utf8 chars encode_utf8 document_of piece_at is_sound text_of base64_on_literals
cover_base64 = refl

next_base64_SignatureStamp : let document = document_of whole in next_octets SignatureStamp handed document (signature document)
    ≡ codes "<ds:SignatureValue xmlns:ds=\"http://www.w3.org/2000/09/xmldsig#\">AAAA</ds:SignatureValue>"
unfolding is_utf8 chars encode_utf8 document_of piece_at is_sound text_of base64_on_literals
next_base64_SignatureStamp = refl

next_base64_ArchiveStamp : let document = document_of whole in next_octets ArchiveStamp handed document (signature document)
    ≡ codes "hello<xades:SignedProperties xmlns:xades=\"http://uri.etsi.org/01903/v1.3.2#\" Id=\"s-sp\"><xades:SignedSignatureProperties><xades:SigningTime>T</xades:SigningTime><xades:SigningCertificateV2><xades:Cert><xades:CertDigest><ds:DigestMethod xmlns:ds=\"http://www.w3.org/2000/09/xmldsig#\" Algorithm=\"http://www.w3.org/2001/04/xmlenc#sha256\"></ds:DigestMethod><ds:DigestValue xmlns:ds=\"http://www.w3.org/2000/09/xmldsig#\">9U+W2cYhO414WHxQCf9YM19O/CSVLvU/LBr7U4j+2mk=</ds:DigestValue></xades:CertDigest></xades:Cert></xades:SigningCertificateV2></xades:SignedSignatureProperties><xades:SignedDataObjectProperties><xades:DataObjectFormat ObjectReference=\"#s-r1\"><xades:MimeType>m</xades:MimeType></xades:DataObjectFormat></xades:SignedDataObjectProperties></xades:SignedProperties><ds:SignedInfo xmlns:ds=\"http://www.w3.org/2000/09/xmldsig#\"><ds:CanonicalizationMethod Algorithm=\"http://www.w3.org/2001/10/xml-exc-c14n#\"></ds:CanonicalizationMethod><ds:SignatureMethod Algorithm=\"urn:m\"></ds:SignatureMethod><ds:Reference Id=\"s-r1\" URI=\"#d\"><ds:Transforms><ds:Transform Algorithm=\"http://www.w3.org/2000/09/xmldsig#base64\"></ds:Transform></ds:Transforms><ds:DigestMethod Algorithm=\"http://www.w3.org/2001/04/xmlenc#sha256\"></ds:DigestMethod><ds:DigestValue>AAAA</ds:DigestValue></ds:Reference><ds:Reference Type=\"http://uri.etsi.org/01903#SignedProperties\" URI=\"#s-sp\"><ds:DigestMethod Algorithm=\"http://www.w3.org/2001/04/xmlenc#sha256\"></ds:DigestMethod><ds:DigestValue>AAAA</ds:DigestValue></ds:Reference></ds:SignedInfo><ds:SignatureValue xmlns:ds=\"http://www.w3.org/2000/09/xmldsig#\">AAAA</ds:SignatureValue><ds:KeyInfo xmlns:ds=\"http://www.w3.org/2000/09/xmldsig#\"><ds:X509Data><ds:X509Certificate>MAE=</ds:X509Certificate></ds:X509Data></ds:KeyInfo>"
unfolding is_utf8 chars encode_utf8 document_of piece_at is_sound text_of base64_on_literals
next_base64_ArchiveStamp = refl

covers_node_set : let document = document_of (whole
    changing codes "<r><d Id=\"d\">aGVs\nbG8=" into codes "<r xmlns=\"u\" xml:lang=\"de\"><d Id=\"d\">x"
    changing codes "<ds:Reference Id=\"s-r1\" URI=\"#d\"><ds:Transforms><ds:Transform Algorithm=\"http://www.w3.org/2000/09/xmldsig#base64\">" into codes "<ds:Reference Id=\"s-r1\" URI=\"\"><ds:Transforms><ds:Transform Algorithm=\"http://www.w3.org/2000/09/xmldsig#enveloped-signature\">"
    changing codes "</ds:Object>" into codes "</ds:Object><ds:Object Id=\"o\">p<!--c-->q</ds:Object>") in covers handed document (signature document)
    ≡ Digested 1 (codes "<r xmlns=\"u\" xml:lang=\"de\"><d Id=\"d\">x</d></r>")
    ∷ Digested 2 (codes "<xades:SignedProperties xmlns=\"u\" xmlns:ds=\"http://www.w3.org/2000/09/xmldsig#\" xmlns:xades=\"http://uri.etsi.org/01903/v1.3.2#\" Id=\"s-sp\" xml:lang=\"de\"><xades:SignedSignatureProperties><xades:SigningTime>T</xades:SigningTime><xades:SigningCertificateV2><xades:Cert><xades:CertDigest><ds:DigestMethod Algorithm=\"http://www.w3.org/2001/04/xmlenc#sha256\"></ds:DigestMethod><ds:DigestValue>9U+W2cYhO414WHxQCf9YM19O/CSVLvU/LBr7U4j+2mk=</ds:DigestValue></xades:CertDigest></xades:Cert></xades:SigningCertificateV2></xades:SignedSignatureProperties><xades:SignedDataObjectProperties><xades:DataObjectFormat ObjectReference=\"#s-r1\"><xades:MimeType>m</xades:MimeType></xades:DataObjectFormat></xades:SignedDataObjectProperties></xades:SignedProperties>")
    ∷ Signed (0 ∷ 0 ∷ 0 ∷ []) (codes "<ds:SignedInfo xmlns:ds=\"http://www.w3.org/2000/09/xmldsig#\"><ds:CanonicalizationMethod Algorithm=\"http://www.w3.org/2001/10/xml-exc-c14n#\"></ds:CanonicalizationMethod><ds:SignatureMethod Algorithm=\"urn:m\"></ds:SignatureMethod><ds:Reference Id=\"s-r1\" URI=\"\"><ds:Transforms><ds:Transform Algorithm=\"http://www.w3.org/2000/09/xmldsig#enveloped-signature\"></ds:Transform></ds:Transforms><ds:DigestMethod Algorithm=\"http://www.w3.org/2001/04/xmlenc#sha256\"></ds:DigestMethod><ds:DigestValue>AAAA</ds:DigestValue></ds:Reference><ds:Reference Type=\"http://uri.etsi.org/01903#SignedProperties\" URI=\"#s-sp\"><ds:DigestMethod Algorithm=\"http://www.w3.org/2001/04/xmlenc#sha256\"></ds:DigestMethod><ds:DigestValue>AAAA</ds:DigestValue></ds:Reference></ds:SignedInfo>")
    ∷ []
unfolding is_utf8 chars encode_utf8 document_of piece_at is_sound text_of base64_on_literals
covers_node_set = refl

cover_node_set : let document = document_of (whole
    changing codes "<r><d Id=\"d\">aGVs\nbG8=" into codes "<r xmlns=\"u\" xml:lang=\"de\"><d Id=\"d\">x"
    changing codes "<ds:Reference Id=\"s-r1\" URI=\"#d\"><ds:Transforms><ds:Transform Algorithm=\"http://www.w3.org/2000/09/xmldsig#base64\">" into codes "<ds:Reference Id=\"s-r1\" URI=\"\"><ds:Transforms><ds:Transform Algorithm=\"http://www.w3.org/2000/09/xmldsig#enveloped-signature\">"
    changing codes "</ds:Object>" into codes "</ds:Object><ds:Object Id=\"o\">p<!--c-->q</ds:Object>") in self_cover document (signature document) ≡ None
unfolding is_utf8 chars encode_utf8 document_of piece_at is_sound text_of base64_on_literals
cover_node_set = refl

covers_stamps : let document = document_of (plain
    changing codes "<r><d Id=\"d\">aGVs\nbG8=" into codes "<r xmlns=\"u\" xml:lang=\"de\"><d Id=\"d\">x"
    changing codes "<ds:Reference Id=\"s-r1\" URI=\"#d\"><ds:Transforms><ds:Transform Algorithm=\"http://www.w3.org/2000/09/xmldsig#base64\">" into codes "<ds:Reference Id=\"s-r1\" URI=\"\"><ds:Transforms><ds:Transform Algorithm=\"http://www.w3.org/2000/09/xmldsig#enveloped-signature\">"
    changing codes "</xades:QualifyingProperties>" into codes "<xades:UnsignedProperties><xades:UnsignedSignatureProperties><xades:SignatureTimeStamp><xades:EncapsulatedTimeStamp>MAM=</xades:EncapsulatedTimeStamp></xades:SignatureTimeStamp><xades:CertificateValues/><xades:SignatureTimeStamp><ds:CanonicalizationMethod Algorithm=\"http://www.w3.org/2001/10/xml-exc-c14n#\"/><xades:EncapsulatedTimeStamp>MAM=</xades:EncapsulatedTimeStamp></xades:SignatureTimeStamp><x/><b:ArchiveTimeStamp xmlns:b=\"http://uri.etsi.org/01903/v1.4.1#\"><ds:CanonicalizationMethod Algorithm=\"http://www.w3.org/2001/10/xml-exc-c14n#\"/><xades:EncapsulatedTimeStamp>MAQ=</xades:EncapsulatedTimeStamp></b:ArchiveTimeStamp><b:ArchiveTimeStamp xmlns:b=\"http://uri.etsi.org/01903/v1.4.1#\"><xades:EncapsulatedTimeStamp>MAQ=</xades:EncapsulatedTimeStamp></b:ArchiveTimeStamp></xades:UnsignedSignatureProperties></xades:UnsignedProperties></xades:QualifyingProperties></ds:Object><ds:Object Id=\"o\">p<!--c-->q") in covers handed document (signature document)
    ≡ Digested 1 (codes "<r xmlns=\"u\" xml:lang=\"de\"><d Id=\"d\">x</d></r>")
    ∷ Digested 2 (codes "<xades:SignedProperties xmlns=\"u\" xmlns:ds=\"http://www.w3.org/2000/09/xmldsig#\" xmlns:xades=\"http://uri.etsi.org/01903/v1.3.2#\" Id=\"s-sp\" xml:lang=\"de\"><xades:SignedSignatureProperties><xades:SigningTime>T</xades:SigningTime><xades:SigningCertificateV2><xades:Cert><xades:CertDigest><ds:DigestMethod Algorithm=\"http://www.w3.org/2001/04/xmlenc#sha256\"></ds:DigestMethod><ds:DigestValue>9U+W2cYhO414WHxQCf9YM19O/CSVLvU/LBr7U4j+2mk=</ds:DigestValue></xades:CertDigest></xades:Cert></xades:SigningCertificateV2></xades:SignedSignatureProperties><xades:SignedDataObjectProperties><xades:DataObjectFormat ObjectReference=\"#s-r1\"><xades:MimeType>m</xades:MimeType></xades:DataObjectFormat></xades:SignedDataObjectProperties></xades:SignedProperties>")
    ∷ Signed (0 ∷ 0 ∷ 0 ∷ []) (codes "<ds:SignedInfo xmlns:ds=\"http://www.w3.org/2000/09/xmldsig#\"><ds:CanonicalizationMethod Algorithm=\"http://www.w3.org/2001/10/xml-exc-c14n#\"></ds:CanonicalizationMethod><ds:SignatureMethod Algorithm=\"urn:m\"></ds:SignatureMethod><ds:Reference Id=\"s-r1\" URI=\"\"><ds:Transforms><ds:Transform Algorithm=\"http://www.w3.org/2000/09/xmldsig#enveloped-signature\"></ds:Transform></ds:Transforms><ds:DigestMethod Algorithm=\"http://www.w3.org/2001/04/xmlenc#sha256\"></ds:DigestMethod><ds:DigestValue>AAAA</ds:DigestValue></ds:Reference><ds:Reference Type=\"http://uri.etsi.org/01903#SignedProperties\" URI=\"#s-sp\"><ds:DigestMethod Algorithm=\"http://www.w3.org/2001/04/xmlenc#sha256\"></ds:DigestMethod><ds:DigestValue>AAAA</ds:DigestValue></ds:Reference></ds:SignedInfo>")
    ∷ Stamped (48 ∷ 3 ∷ []) (codes "<ds:SignatureValue xmlns=\"u\" xmlns:ds=\"http://www.w3.org/2000/09/xmldsig#\" xml:lang=\"de\">AAAA</ds:SignatureValue>")
    ∷ Stamped (48 ∷ 3 ∷ []) (codes "<ds:SignatureValue xmlns:ds=\"http://www.w3.org/2000/09/xmldsig#\">AAAA</ds:SignatureValue>")
    ∷ Stamped (48 ∷ 4 ∷ []) (codes "<r xmlns=\"u\" xml:lang=\"de\"><d Id=\"d\">x</d></r><xades:SignedProperties xmlns:xades=\"http://uri.etsi.org/01903/v1.3.2#\" Id=\"s-sp\"><xades:SignedSignatureProperties><xades:SigningTime>T</xades:SigningTime><xades:SigningCertificateV2><xades:Cert><xades:CertDigest><ds:DigestMethod xmlns:ds=\"http://www.w3.org/2000/09/xmldsig#\" Algorithm=\"http://www.w3.org/2001/04/xmlenc#sha256\"></ds:DigestMethod><ds:DigestValue xmlns:ds=\"http://www.w3.org/2000/09/xmldsig#\">9U+W2cYhO414WHxQCf9YM19O/CSVLvU/LBr7U4j+2mk=</ds:DigestValue></xades:CertDigest></xades:Cert></xades:SigningCertificateV2></xades:SignedSignatureProperties><xades:SignedDataObjectProperties><xades:DataObjectFormat ObjectReference=\"#s-r1\"><xades:MimeType>m</xades:MimeType></xades:DataObjectFormat></xades:SignedDataObjectProperties></xades:SignedProperties><ds:SignedInfo xmlns:ds=\"http://www.w3.org/2000/09/xmldsig#\"><ds:CanonicalizationMethod Algorithm=\"http://www.w3.org/2001/10/xml-exc-c14n#\"></ds:CanonicalizationMethod><ds:SignatureMethod Algorithm=\"urn:m\"></ds:SignatureMethod><ds:Reference Id=\"s-r1\" URI=\"\"><ds:Transforms><ds:Transform Algorithm=\"http://www.w3.org/2000/09/xmldsig#enveloped-signature\"></ds:Transform></ds:Transforms><ds:DigestMethod Algorithm=\"http://www.w3.org/2001/04/xmlenc#sha256\"></ds:DigestMethod><ds:DigestValue>AAAA</ds:DigestValue></ds:Reference><ds:Reference Type=\"http://uri.etsi.org/01903#SignedProperties\" URI=\"#s-sp\"><ds:DigestMethod Algorithm=\"http://www.w3.org/2001/04/xmlenc#sha256\"></ds:DigestMethod><ds:DigestValue>AAAA</ds:DigestValue></ds:Reference></ds:SignedInfo><ds:SignatureValue xmlns:ds=\"http://www.w3.org/2000/09/xmldsig#\">AAAA</ds:SignatureValue><ds:KeyInfo xmlns:ds=\"http://www.w3.org/2000/09/xmldsig#\"><ds:X509Data><ds:X509Certificate>MAE=</ds:X509Certificate></ds:X509Data></ds:KeyInfo><xades:SignatureTimeStamp xmlns:xades=\"http://uri.etsi.org/01903/v1.3.2#\"><xades:EncapsulatedTimeStamp>MAM=</xades:EncapsulatedTimeStamp></xades:SignatureTimeStamp><xades:CertificateValues xmlns:xades=\"http://uri.etsi.org/01903/v1.3.2#\"></xades:CertificateValues><xades:SignatureTimeStamp xmlns:xades=\"http://uri.etsi.org/01903/v1.3.2#\"><ds:CanonicalizationMethod xmlns:ds=\"http://www.w3.org/2000/09/xmldsig#\" Algorithm=\"http://www.w3.org/2001/10/xml-exc-c14n#\"></ds:CanonicalizationMethod><xades:EncapsulatedTimeStamp>MAM=</xades:EncapsulatedTimeStamp></xades:SignatureTimeStamp><x xmlns=\"u\"></x><ds:Object xmlns:ds=\"http://www.w3.org/2000/09/xmldsig#\" Id=\"o\">pq</ds:Object>")
    ∷ Stamped (48 ∷ 4 ∷ []) (codes "<r xmlns=\"u\" xml:lang=\"de\"><d Id=\"d\">x</d></r><xades:SignedProperties xmlns=\"u\" xmlns:ds=\"http://www.w3.org/2000/09/xmldsig#\" xmlns:xades=\"http://uri.etsi.org/01903/v1.3.2#\" Id=\"s-sp\" xml:lang=\"de\"><xades:SignedSignatureProperties><xades:SigningTime>T</xades:SigningTime><xades:SigningCertificateV2><xades:Cert><xades:CertDigest><ds:DigestMethod Algorithm=\"http://www.w3.org/2001/04/xmlenc#sha256\"></ds:DigestMethod><ds:DigestValue>9U+W2cYhO414WHxQCf9YM19O/CSVLvU/LBr7U4j+2mk=</ds:DigestValue></xades:CertDigest></xades:Cert></xades:SigningCertificateV2></xades:SignedSignatureProperties><xades:SignedDataObjectProperties><xades:DataObjectFormat ObjectReference=\"#s-r1\"><xades:MimeType>m</xades:MimeType></xades:DataObjectFormat></xades:SignedDataObjectProperties></xades:SignedProperties><ds:SignedInfo xmlns=\"u\" xmlns:ds=\"http://www.w3.org/2000/09/xmldsig#\" xml:lang=\"de\"><ds:CanonicalizationMethod Algorithm=\"http://www.w3.org/2001/10/xml-exc-c14n#\"></ds:CanonicalizationMethod><ds:SignatureMethod Algorithm=\"urn:m\"></ds:SignatureMethod><ds:Reference Id=\"s-r1\" URI=\"\"><ds:Transforms><ds:Transform Algorithm=\"http://www.w3.org/2000/09/xmldsig#enveloped-signature\"></ds:Transform></ds:Transforms><ds:DigestMethod Algorithm=\"http://www.w3.org/2001/04/xmlenc#sha256\"></ds:DigestMethod><ds:DigestValue>AAAA</ds:DigestValue></ds:Reference><ds:Reference Type=\"http://uri.etsi.org/01903#SignedProperties\" URI=\"#s-sp\"><ds:DigestMethod Algorithm=\"http://www.w3.org/2001/04/xmlenc#sha256\"></ds:DigestMethod><ds:DigestValue>AAAA</ds:DigestValue></ds:Reference></ds:SignedInfo><ds:SignatureValue xmlns=\"u\" xmlns:ds=\"http://www.w3.org/2000/09/xmldsig#\" xml:lang=\"de\">AAAA</ds:SignatureValue><ds:KeyInfo xmlns=\"u\" xmlns:ds=\"http://www.w3.org/2000/09/xmldsig#\" xml:lang=\"de\"><ds:X509Data><ds:X509Certificate>MAE=</ds:X509Certificate></ds:X509Data></ds:KeyInfo><xades:SignatureTimeStamp xmlns=\"u\" xmlns:ds=\"http://www.w3.org/2000/09/xmldsig#\" xmlns:xades=\"http://uri.etsi.org/01903/v1.3.2#\" xml:lang=\"de\"><xades:EncapsulatedTimeStamp>MAM=</xades:EncapsulatedTimeStamp></xades:SignatureTimeStamp><xades:CertificateValues xmlns=\"u\" xmlns:ds=\"http://www.w3.org/2000/09/xmldsig#\" xmlns:xades=\"http://uri.etsi.org/01903/v1.3.2#\" xml:lang=\"de\"></xades:CertificateValues><xades:SignatureTimeStamp xmlns=\"u\" xmlns:ds=\"http://www.w3.org/2000/09/xmldsig#\" xmlns:xades=\"http://uri.etsi.org/01903/v1.3.2#\" xml:lang=\"de\"><ds:CanonicalizationMethod Algorithm=\"http://www.w3.org/2001/10/xml-exc-c14n#\"></ds:CanonicalizationMethod><xades:EncapsulatedTimeStamp>MAM=</xades:EncapsulatedTimeStamp></xades:SignatureTimeStamp><x xmlns=\"u\" xmlns:ds=\"http://www.w3.org/2000/09/xmldsig#\" xmlns:xades=\"http://uri.etsi.org/01903/v1.3.2#\" xml:lang=\"de\"></x><b:ArchiveTimeStamp xmlns=\"u\" xmlns:b=\"http://uri.etsi.org/01903/v1.4.1#\" xmlns:ds=\"http://www.w3.org/2000/09/xmldsig#\" xmlns:xades=\"http://uri.etsi.org/01903/v1.3.2#\" xml:lang=\"de\"><ds:CanonicalizationMethod Algorithm=\"http://www.w3.org/2001/10/xml-exc-c14n#\"></ds:CanonicalizationMethod><xades:EncapsulatedTimeStamp>MAQ=</xades:EncapsulatedTimeStamp></b:ArchiveTimeStamp><ds:Object xmlns=\"u\" xmlns:ds=\"http://www.w3.org/2000/09/xmldsig#\" Id=\"o\" xml:lang=\"de\">pq</ds:Object>")
    ∷ []
unfolding is_utf8 chars encode_utf8 document_of piece_at is_sound text_of base64_on_literals
covers_stamps = refl

cover_stamps : let document = document_of (plain
    changing codes "<r><d Id=\"d\">aGVs\nbG8=" into codes "<r xmlns=\"u\" xml:lang=\"de\"><d Id=\"d\">x"
    changing codes "<ds:Reference Id=\"s-r1\" URI=\"#d\"><ds:Transforms><ds:Transform Algorithm=\"http://www.w3.org/2000/09/xmldsig#base64\">" into codes "<ds:Reference Id=\"s-r1\" URI=\"\"><ds:Transforms><ds:Transform Algorithm=\"http://www.w3.org/2000/09/xmldsig#enveloped-signature\">"
    changing codes "</xades:QualifyingProperties>" into codes "<xades:UnsignedProperties><xades:UnsignedSignatureProperties><xades:SignatureTimeStamp><xades:EncapsulatedTimeStamp>MAM=</xades:EncapsulatedTimeStamp></xades:SignatureTimeStamp><xades:CertificateValues/><xades:SignatureTimeStamp><ds:CanonicalizationMethod Algorithm=\"http://www.w3.org/2001/10/xml-exc-c14n#\"/><xades:EncapsulatedTimeStamp>MAM=</xades:EncapsulatedTimeStamp></xades:SignatureTimeStamp><x/><b:ArchiveTimeStamp xmlns:b=\"http://uri.etsi.org/01903/v1.4.1#\"><ds:CanonicalizationMethod Algorithm=\"http://www.w3.org/2001/10/xml-exc-c14n#\"/><xades:EncapsulatedTimeStamp>MAQ=</xades:EncapsulatedTimeStamp></b:ArchiveTimeStamp><b:ArchiveTimeStamp xmlns:b=\"http://uri.etsi.org/01903/v1.4.1#\"><xades:EncapsulatedTimeStamp>MAQ=</xades:EncapsulatedTimeStamp></b:ArchiveTimeStamp></xades:UnsignedSignatureProperties></xades:UnsignedProperties></xades:QualifyingProperties></ds:Object><ds:Object Id=\"o\">p<!--c-->q") in self_cover document (signature document) ≡ None
unfolding is_utf8 chars encode_utf8 document_of piece_at is_sound text_of base64_on_literals
cover_stamps = refl

next_stamps_SignatureStamp : let document = document_of (plain
    changing codes "<r><d Id=\"d\">aGVs\nbG8=" into codes "<r xmlns=\"u\" xml:lang=\"de\"><d Id=\"d\">x"
    changing codes "<ds:Reference Id=\"s-r1\" URI=\"#d\"><ds:Transforms><ds:Transform Algorithm=\"http://www.w3.org/2000/09/xmldsig#base64\">" into codes "<ds:Reference Id=\"s-r1\" URI=\"\"><ds:Transforms><ds:Transform Algorithm=\"http://www.w3.org/2000/09/xmldsig#enveloped-signature\">"
    changing codes "</xades:QualifyingProperties>" into codes "<xades:UnsignedProperties><xades:UnsignedSignatureProperties><xades:SignatureTimeStamp><xades:EncapsulatedTimeStamp>MAM=</xades:EncapsulatedTimeStamp></xades:SignatureTimeStamp><xades:CertificateValues/><xades:SignatureTimeStamp><ds:CanonicalizationMethod Algorithm=\"http://www.w3.org/2001/10/xml-exc-c14n#\"/><xades:EncapsulatedTimeStamp>MAM=</xades:EncapsulatedTimeStamp></xades:SignatureTimeStamp><x/><b:ArchiveTimeStamp xmlns:b=\"http://uri.etsi.org/01903/v1.4.1#\"><ds:CanonicalizationMethod Algorithm=\"http://www.w3.org/2001/10/xml-exc-c14n#\"/><xades:EncapsulatedTimeStamp>MAQ=</xades:EncapsulatedTimeStamp></b:ArchiveTimeStamp><b:ArchiveTimeStamp xmlns:b=\"http://uri.etsi.org/01903/v1.4.1#\"><xades:EncapsulatedTimeStamp>MAQ=</xades:EncapsulatedTimeStamp></b:ArchiveTimeStamp></xades:UnsignedSignatureProperties></xades:UnsignedProperties></xades:QualifyingProperties></ds:Object><ds:Object Id=\"o\">p<!--c-->q") in next_octets SignatureStamp handed document (signature document)
    ≡ codes "<ds:SignatureValue xmlns:ds=\"http://www.w3.org/2000/09/xmldsig#\">AAAA</ds:SignatureValue>"
unfolding is_utf8 chars encode_utf8 document_of piece_at is_sound text_of base64_on_literals
next_stamps_SignatureStamp = refl

next_stamps_ArchiveStamp : let document = document_of (plain
    changing codes "<r><d Id=\"d\">aGVs\nbG8=" into codes "<r xmlns=\"u\" xml:lang=\"de\"><d Id=\"d\">x"
    changing codes "<ds:Reference Id=\"s-r1\" URI=\"#d\"><ds:Transforms><ds:Transform Algorithm=\"http://www.w3.org/2000/09/xmldsig#base64\">" into codes "<ds:Reference Id=\"s-r1\" URI=\"\"><ds:Transforms><ds:Transform Algorithm=\"http://www.w3.org/2000/09/xmldsig#enveloped-signature\">"
    changing codes "</xades:QualifyingProperties>" into codes "<xades:UnsignedProperties><xades:UnsignedSignatureProperties><xades:SignatureTimeStamp><xades:EncapsulatedTimeStamp>MAM=</xades:EncapsulatedTimeStamp></xades:SignatureTimeStamp><xades:CertificateValues/><xades:SignatureTimeStamp><ds:CanonicalizationMethod Algorithm=\"http://www.w3.org/2001/10/xml-exc-c14n#\"/><xades:EncapsulatedTimeStamp>MAM=</xades:EncapsulatedTimeStamp></xades:SignatureTimeStamp><x/><b:ArchiveTimeStamp xmlns:b=\"http://uri.etsi.org/01903/v1.4.1#\"><ds:CanonicalizationMethod Algorithm=\"http://www.w3.org/2001/10/xml-exc-c14n#\"/><xades:EncapsulatedTimeStamp>MAQ=</xades:EncapsulatedTimeStamp></b:ArchiveTimeStamp><b:ArchiveTimeStamp xmlns:b=\"http://uri.etsi.org/01903/v1.4.1#\"><xades:EncapsulatedTimeStamp>MAQ=</xades:EncapsulatedTimeStamp></b:ArchiveTimeStamp></xades:UnsignedSignatureProperties></xades:UnsignedProperties></xades:QualifyingProperties></ds:Object><ds:Object Id=\"o\">p<!--c-->q") in next_octets ArchiveStamp handed document (signature document)
    ≡ codes "<r xmlns=\"u\" xml:lang=\"de\"><d Id=\"d\">x</d></r><xades:SignedProperties xmlns:xades=\"http://uri.etsi.org/01903/v1.3.2#\" Id=\"s-sp\"><xades:SignedSignatureProperties><xades:SigningTime>T</xades:SigningTime><xades:SigningCertificateV2><xades:Cert><xades:CertDigest><ds:DigestMethod xmlns:ds=\"http://www.w3.org/2000/09/xmldsig#\" Algorithm=\"http://www.w3.org/2001/04/xmlenc#sha256\"></ds:DigestMethod><ds:DigestValue xmlns:ds=\"http://www.w3.org/2000/09/xmldsig#\">9U+W2cYhO414WHxQCf9YM19O/CSVLvU/LBr7U4j+2mk=</ds:DigestValue></xades:CertDigest></xades:Cert></xades:SigningCertificateV2></xades:SignedSignatureProperties><xades:SignedDataObjectProperties><xades:DataObjectFormat ObjectReference=\"#s-r1\"><xades:MimeType>m</xades:MimeType></xades:DataObjectFormat></xades:SignedDataObjectProperties></xades:SignedProperties><ds:SignedInfo xmlns:ds=\"http://www.w3.org/2000/09/xmldsig#\"><ds:CanonicalizationMethod Algorithm=\"http://www.w3.org/2001/10/xml-exc-c14n#\"></ds:CanonicalizationMethod><ds:SignatureMethod Algorithm=\"urn:m\"></ds:SignatureMethod><ds:Reference Id=\"s-r1\" URI=\"\"><ds:Transforms><ds:Transform Algorithm=\"http://www.w3.org/2000/09/xmldsig#enveloped-signature\"></ds:Transform></ds:Transforms><ds:DigestMethod Algorithm=\"http://www.w3.org/2001/04/xmlenc#sha256\"></ds:DigestMethod><ds:DigestValue>AAAA</ds:DigestValue></ds:Reference><ds:Reference Type=\"http://uri.etsi.org/01903#SignedProperties\" URI=\"#s-sp\"><ds:DigestMethod Algorithm=\"http://www.w3.org/2001/04/xmlenc#sha256\"></ds:DigestMethod><ds:DigestValue>AAAA</ds:DigestValue></ds:Reference></ds:SignedInfo><ds:SignatureValue xmlns:ds=\"http://www.w3.org/2000/09/xmldsig#\">AAAA</ds:SignatureValue><ds:KeyInfo xmlns:ds=\"http://www.w3.org/2000/09/xmldsig#\"><ds:X509Data><ds:X509Certificate>MAE=</ds:X509Certificate></ds:X509Data></ds:KeyInfo><xades:SignatureTimeStamp xmlns:xades=\"http://uri.etsi.org/01903/v1.3.2#\"><xades:EncapsulatedTimeStamp>MAM=</xades:EncapsulatedTimeStamp></xades:SignatureTimeStamp><xades:CertificateValues xmlns:xades=\"http://uri.etsi.org/01903/v1.3.2#\"></xades:CertificateValues><xades:SignatureTimeStamp xmlns:xades=\"http://uri.etsi.org/01903/v1.3.2#\"><ds:CanonicalizationMethod xmlns:ds=\"http://www.w3.org/2000/09/xmldsig#\" Algorithm=\"http://www.w3.org/2001/10/xml-exc-c14n#\"></ds:CanonicalizationMethod><xades:EncapsulatedTimeStamp>MAM=</xades:EncapsulatedTimeStamp></xades:SignatureTimeStamp><x xmlns=\"u\"></x><b:ArchiveTimeStamp xmlns:b=\"http://uri.etsi.org/01903/v1.4.1#\"><ds:CanonicalizationMethod xmlns:ds=\"http://www.w3.org/2000/09/xmldsig#\" Algorithm=\"http://www.w3.org/2001/10/xml-exc-c14n#\"></ds:CanonicalizationMethod><xades:EncapsulatedTimeStamp xmlns:xades=\"http://uri.etsi.org/01903/v1.3.2#\">MAQ=</xades:EncapsulatedTimeStamp></b:ArchiveTimeStamp><b:ArchiveTimeStamp xmlns:b=\"http://uri.etsi.org/01903/v1.4.1#\"><xades:EncapsulatedTimeStamp xmlns:xades=\"http://uri.etsi.org/01903/v1.3.2#\">MAQ=</xades:EncapsulatedTimeStamp></b:ArchiveTimeStamp><ds:Object xmlns:ds=\"http://www.w3.org/2000/09/xmldsig#\" Id=\"o\">pq</ds:Object>"
unfolding is_utf8 chars encode_utf8 document_of piece_at is_sound text_of base64_on_literals
next_stamps_ArchiveStamp = refl

self_cover_object : let document = document_of (whole
    changing codes "<ds:Reference Id=\"s-r1\" URI=\"#d\"><ds:Transforms><ds:Transform Algorithm=\"http://www.w3.org/2000/09/xmldsig#base64\"></ds:Transform></ds:Transforms>" into codes "<ds:Reference Id=\"s-r1\" URI=\"#o\">"
    changing codes "<ds:Object>" into codes "<ds:Object Id=\"o\">x</ds:Object><ds:Object>") in self_cover document (signature document) ≡ None
unfolding is_utf8 chars encode_utf8 document_of piece_at is_sound text_of base64_on_literals
self_cover_object = refl

self_cover_host : let document = document_of (whole
    changing codes "<ds:Reference Id=\"s-r1\" URI=\"#d\"><ds:Transforms><ds:Transform Algorithm=\"http://www.w3.org/2000/09/xmldsig#base64\"></ds:Transform></ds:Transforms>" into codes "<ds:Reference Id=\"s-r1\" URI=\"#q\">"
    changing codes "<xades:QualifyingProperties xmlns:xades=\"http://uri.etsi.org/01903/v1.3.2#\" Target=\"#s\">" into codes "<xades:QualifyingProperties xmlns:xades=\"http://uri.etsi.org/01903/v1.3.2#\" Target=\"#s\" Id=\"q\">") in self_cover document (signature document) ≡ Some 1
unfolding is_utf8 chars encode_utf8 document_of piece_at is_sound text_of base64_on_literals
self_cover_host = refl

self_cover_value_filled : let document = document_of (whole
    changing codes "<ds:Reference Id=\"s-r1\" URI=\"#d\"><ds:Transforms><ds:Transform Algorithm=\"http://www.w3.org/2000/09/xmldsig#base64\"></ds:Transform></ds:Transforms>" into codes "<ds:Reference Id=\"s-r1\" URI=\"#v\">"
    changing codes "<ds:SignatureValue>" into codes "<ds:SignatureValue id=\"v\">") in self_cover document (signature document) ≡ None
unfolding is_utf8 chars encode_utf8 document_of piece_at is_sound text_of base64_on_literals
self_cover_value_filled = refl

self_cover_value_empty : let document = document_of (whole
    changing codes "<ds:Reference Id=\"s-r1\" URI=\"#d\"><ds:Transforms><ds:Transform Algorithm=\"http://www.w3.org/2000/09/xmldsig#base64\"></ds:Transform></ds:Transforms>" into codes "<ds:Reference Id=\"s-r1\" URI=\"#v\">"
    changing codes "<ds:SignatureValue>AAAA" into codes "<ds:SignatureValue id=\"v\"> ") in self_cover document (signature document) ≡ Some 1
unfolding is_utf8 chars encode_utf8 document_of piece_at is_sound text_of base64_on_literals
self_cover_value_empty = refl

self_cover_key : let document = document_of (whole
    changing codes "<ds:Reference Id=\"s-r1\" URI=\"#d\"><ds:Transforms><ds:Transform Algorithm=\"http://www.w3.org/2000/09/xmldsig#base64\"></ds:Transform></ds:Transforms>" into codes "<ds:Reference Id=\"s-r1\" URI=\"#k\">"
    changing codes "<ds:KeyInfo>" into codes "<ds:KeyInfo ID=\"k\">") in self_cover document (signature document) ≡ None
unfolding is_utf8 chars encode_utf8 document_of piece_at is_sound text_of base64_on_literals
self_cover_key = refl

self_cover_whole_enveloped : let document = document_of (whole
    changing codes "<ds:Reference Id=\"s-r1\" URI=\"#d\"><ds:Transforms><ds:Transform Algorithm=\"http://www.w3.org/2000/09/xmldsig#base64\">" into codes "<ds:Reference Id=\"s-r1\" URI=\"\"><ds:Transforms><ds:Transform Algorithm=\"http://www.w3.org/2000/09/xmldsig#enveloped-signature\"></ds:Transform><ds:Transform Algorithm=\"http://www.w3.org/2001/10/xml-exc-c14n#\">") in self_cover document (signature document) ≡ None
unfolding is_utf8 chars encode_utf8 document_of piece_at is_sound text_of base64_on_literals
self_cover_whole_enveloped = refl

self_cover_properties_first : let document = document_of (whole
    changing codes "<ds:Reference Id=\"s-r1\" URI=\"#d\"><ds:Transforms><ds:Transform Algorithm=\"http://www.w3.org/2000/09/xmldsig#base64\"></ds:Transform></ds:Transforms>" into codes "<ds:Reference Type=\"http://uri.etsi.org/01903#SignedProperties\" URI=\"#s-sp\">"
    changing codes "</ds:Reference><ds:Reference Type=\"http://uri.etsi.org/01903#SignedProperties\" URI=\"#s-sp\">" into codes "</ds:Reference><ds:Reference Id=\"s-r1\" URI=\"#o\">"
    changing codes "<ds:Object>" into codes "<ds:Object Id=\"o\">") in self_cover document (signature document) ≡ Some 2
unfolding is_utf8 chars encode_utf8 document_of piece_at is_sound text_of base64_on_literals
self_cover_properties_first = refl

is_signed_yes : let document = document_of whole in is_signed document (signature document) ≡ true
unfolding is_utf8 chars encode_utf8 document_of piece_at is_sound text_of base64_on_literals
is_signed_yes = refl

is_signed_no : let document = document_of (whole
    changing codes "<ds:SignatureValue>AAAA" into codes "<ds:SignatureValue> \n") in is_signed document (signature document) ≡ false
unfolding is_utf8 chars encode_utf8 document_of piece_at is_sound text_of base64_on_literals
is_signed_no = refl

is_signed_none : let document = document_of (whole
    changing codes "<ds:SignatureValue>AAAA" into codes "<ds:SignatureValue>") in is_signed document (signature document) ≡ false
unfolding is_utf8 chars encode_utf8 document_of piece_at is_sound text_of base64_on_literals
is_signed_none = refl
