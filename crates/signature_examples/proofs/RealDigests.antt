-- Digests by SHA-256: the signing certificate of a small document, and a document that is prepared.
use Rattle.std.specs.Prelude.{◌≡◌, refl, Some, [], ◌∷◌, codes, ℕ, List}
use Rattle.std.specs.Str.{is_utf8, chars}
use Rattle.std.specs.Char.{encode_utf8}
use Rattle.std.specs.Fmt.{digits}
use Rattle.base64.proofs.OnLiterals.{base64_on_literals}
use Rattle.sha2.specs.Sha256.{sha256, first_words, schedule, rounds, compress, hash_after, digest_bytes}
use Rattle.document_model.specs.Documents.{document_of}
use Rattle.document_model.specs.Items.{piece_at}
use Rattle.document_model.specs.Scopes.{is_sound}
use Rattle.document_model.specs.Canonical.{text_of}
use Rattle.signature_model.specs.Vocabulary.{DigestKind, Sha256}
use Rattle.signature_model.specs.Parts.{signing_certificate}
use Rattle.signature_model.specs.Chains.{Handed}
use Rattle.signature_model.specs.Prepared.{prepared_bytes}
use Rattle.signature_examples.proofs.SmallDocument.{whole, signature, handed_as_e}

digest : DigestKind → List ℕ → List ℕ
digest kind octets = sha256 octets

abbrev handed : Handed
handed = handed_as_e (codes "abc")

by_digest : let document = document_of whole in signing_certificate digest document (signature document) ≡ Some (48 ∷ 1 ∷ [])
unfolding is_utf8 chars encode_utf8 document_of piece_at is_sound text_of base64_on_literals digest sha256 first_words schedule rounds compress hash_after digest_bytes
by_digest = refl

prepared_whole : let bytes = codes "<r/>" in prepared_bytes digest handed (document_of bytes)
    (record { time = codes "2030-01-01T00:00:00Z"; id = codes "s"; method = codes "urn:m"; digest = Sha256; certificates = (48 ∷ 1 ∷ []) ∷ []; references = codes "" ∷ codes "e" ∷ [] }) bytes
    ≡ codes "<r><ds:Signature xmlns:ds=\"http://www.w3.org/2000/09/xmldsig#\" Id=\"s\"><ds:SignedInfo><ds:CanonicalizationMethod Algorithm=\"http://www.w3.org/2001/10/xml-exc-c14n#\"></ds:CanonicalizationMethod><ds:SignatureMethod Algorithm=\"urn:m\"></ds:SignatureMethod><ds:Reference Id=\"s-r1\" URI=\"\"><ds:Transforms><ds:Transform Algorithm=\"http://www.w3.org/2000/09/xmldsig#enveloped-signature\"></ds:Transform><ds:Transform Algorithm=\"http://www.w3.org/2001/10/xml-exc-c14n#\"></ds:Transform></ds:Transforms><ds:DigestMethod Algorithm=\"http://www.w3.org/2001/04/xmlenc#sha256\"></ds:DigestMethod><ds:DigestValue>INE/am0XrdS7VxGcSDwRDfdncEX4dGZ6AYqycC4vYkc=</ds:DigestValue></ds:Reference><ds:Reference Id=\"s-r2\" URI=\"e\"><ds:DigestMethod Algorithm=\"http://www.w3.org/2001/04/xmlenc#sha256\"></ds:DigestMethod><ds:DigestValue>ungWv48Bz+pBQUDeXa4iI7ADYaOWF3qctBD/YfIAFa0=</ds:DigestValue></ds:Reference><ds:Reference Type=\"http://uri.etsi.org/01903#SignedProperties\" URI=\"#s-sp\"><ds:Transforms><ds:Transform Algorithm=\"http://www.w3.org/2001/10/xml-exc-c14n#\"></ds:Transform></ds:Transforms><ds:DigestMethod Algorithm=\"http://www.w3.org/2001/04/xmlenc#sha256\"></ds:DigestMethod><ds:DigestValue>TzX8KOOBK/Xth/fOO4j2DWAD8aUz4nh9jiwzDjUUXjk=</ds:DigestValue></ds:Reference></ds:SignedInfo><ds:SignatureValue></ds:SignatureValue><ds:KeyInfo><ds:X509Data><ds:X509Certificate>MAE=</ds:X509Certificate></ds:X509Data></ds:KeyInfo><ds:Object><xades:QualifyingProperties xmlns:xades=\"http://uri.etsi.org/01903/v1.3.2#\" Target=\"#s\"><xades:SignedProperties Id=\"s-sp\"><xades:SignedSignatureProperties><xades:SigningTime>2030-01-01T00:00:00Z</xades:SigningTime><xades:SigningCertificateV2><xades:Cert><xades:CertDigest><ds:DigestMethod Algorithm=\"http://www.w3.org/2001/04/xmlenc#sha256\"></ds:DigestMethod><ds:DigestValue>9U+W2cYhO414WHxQCf9YM19O/CSVLvU/LBr7U4j+2mk=</ds:DigestValue></xades:CertDigest></xades:Cert></xades:SigningCertificateV2></xades:SignedSignatureProperties><xades:SignedDataObjectProperties><xades:DataObjectFormat ObjectReference=\"#s-r1\"><xades:MimeType>text/xml</xades:MimeType></xades:DataObjectFormat><xades:DataObjectFormat ObjectReference=\"#s-r2\"><xades:MimeType>application/octet-stream</xades:MimeType></xades:DataObjectFormat></xades:SignedDataObjectProperties></xades:SignedProperties></xades:QualifyingProperties></ds:Object></ds:Signature></r>"
unfolding is_utf8 chars encode_utf8 document_of piece_at is_sound text_of base64_on_literals digest digits sha256 first_words schedule rounds compress hash_after digest_bytes
prepared_whole = refl
