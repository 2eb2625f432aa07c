-- A small document that takes an item of each kind, computed.
use Rattle.std.specs.Prelude.{◌≡◌, refl, ℕ, Bool, None, List, [], ◌∷◌, ◌++◌, codes, true, false, length}
use Rattle.std.specs.Str.{is_utf8, chars}
use Rattle.std.specs.Char.{encode_utf8}
use Rattle.base64.proofs.OnLiterals.{base64_on_literals}
use Rattle.document_model.specs.Documents.{document_of, fault}
use Rattle.document_model.specs.Items.{piece_at}
use Rattle.document_model.specs.Scopes.{is_sound, tags_at}
use Rattle.document_model.specs.Canonical.{text_of}
use Rattle.document_model.specs.Tree.{Nodes}
use Rattle.signature_model.specs.Spots.{Spot}
use Rattle.signature_model.specs.Parts.{DatumKind, is_signed}
use Rattle.signature_model.specs.Chains.{Handed}
use Rattle.signature_model.specs.Readable.{answer, Read}
use Rattle.signature_model.specs.Covers.{IsFree, covers}
use Rattle.signature_model.specs.Fragments.{Item, Value, Stamp, Data, Archive}
use Rattle.attached_lists.specs.Files.{file_after}

handed : Handed
handed name = None

any : DatumKind → List ℕ → Bool
any kind octets = true

-- its signature has no value yet
unsigned : List ℕ
unsigned = codes "<r><d Id=\"d\">text</d><ds:Signature xmlns:ds=\"http://www.w3.org/2000/09/xmldsig#\" Id=\"s\"><ds:SignedInfo>"
    ++ codes "<ds:CanonicalizationMethod Algorithm=\"http://www.w3.org/2001/10/xml-exc-c14n#\"/><ds:SignatureMethod Algorithm=\"urn:m\"/>"
    ++ codes "<ds:Reference Id=\"s-r1\" URI=\"#d\"><ds:DigestMethod Algorithm=\"http://www.w3.org/2001/04/xmlenc#sha256\"/><ds:DigestValue>AAAA</ds:DigestValue></ds:Reference>"
    ++ codes "<ds:Reference Type=\"http://uri.etsi.org/01903#SignedProperties\" URI=\"#s-sp\"><ds:DigestMethod Algorithm=\"http://www.w3.org/2001/04/xmlenc#sha256\"/><ds:DigestValue>AAAA</ds:DigestValue></ds:Reference>"
    ++ codes "</ds:SignedInfo><ds:SignatureValue></ds:SignatureValue><ds:KeyInfo><ds:X509Data><ds:X509Certificate>MAE=</ds:X509Certificate></ds:X509Data></ds:KeyInfo><ds:Object>"
    ++ codes "<xades:QualifyingProperties xmlns:xades=\"http://uri.etsi.org/01903/v1.3.2#\" Target=\"#s\"><xades:SignedProperties Id=\"s-sp\"><xades:SignedSignatureProperties>"
    ++ codes "<xades:SigningTime>T</xades:SigningTime><xades:SigningCertificateV2><xades:Cert><xades:CertDigest><ds:DigestMethod Algorithm=\"http://www.w3.org/2001/04/xmlenc#sha256\"/><ds:DigestValue>AAAA</ds:DigestValue></xades:CertDigest></xades:Cert></xades:SigningCertificateV2>"
    ++ codes "</xades:SignedSignatureProperties><xades:SignedDataObjectProperties><xades:DataObjectFormat ObjectReference=\"#s-r1\"><xades:MimeType>m</xades:MimeType></xades:DataObjectFormat>"
    ++ codes "</xades:SignedDataObjectProperties></xades:SignedProperties></xades:QualifyingProperties></ds:Object></ds:Signature></r>"

signature : Nodes → Spot
signature document = record { path = 0 ∷ 1 ∷ []; tags = tags_at document (0 ∷ 1 ∷ []) }

items : List Item
items = Value (1 ∷ 2 ∷ 3 ∷ []) ∷ Stamp (0x30 ∷ 1 ∷ []) ∷ Data ((0x30 ∷ 2 ∷ []) ∷ []) ((0x30 ∷ 3 ∷ []) ∷ []) ∷ Archive (0x30 ∷ 4 ∷ []) ∷ []

read : answer any (document_of unsigned) ≡ Read (signature (document_of unsigned))
unfolding is_utf8 chars encode_utf8 document_of piece_at is_sound text_of base64_on_literals any unsigned signature
read = refl

free : IsFree (document_of unsigned) (signature (document_of unsigned))
unfolding is_utf8 chars encode_utf8 document_of piece_at is_sound text_of base64_on_literals any unsigned signature
free = refl

not_signed : is_signed (document_of unsigned) (signature (document_of unsigned)) ≡ false
unfolding is_utf8 chars encode_utf8 document_of piece_at is_sound text_of base64_on_literals any unsigned signature
not_signed = refl

-- each new file passes no limit, and the last one covers both References, the value and two stamps
fits : let s = signature (document_of unsigned) in (fault (file_after s items unsigned 1) ≡ None) × (fault (file_after s items unsigned 4) ≡ None)
unfolding is_utf8 chars encode_utf8 document_of fault piece_at is_sound text_of base64_on_literals any unsigned signature items
fits = (refl, refl)

covered : let s = signature (document_of unsigned) in length (covers handed (document_of (file_after s items unsigned 4)) s) ≡ 5
unfolding is_utf8 chars encode_utf8 document_of piece_at is_sound text_of base64_on_literals any unsigned signature items handed
covered = refl

read_last : let s = signature (document_of unsigned) in answer any (document_of (file_after s items unsigned 4)) ≡ Read s
unfolding is_utf8 chars encode_utf8 document_of piece_at is_sound text_of base64_on_literals any unsigned signature items
read_last = refl
