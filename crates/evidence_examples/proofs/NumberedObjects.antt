-- The objects of a small signature, and what its time-stamps cover.
use Rattle.std.specs.Prelude.{◌≡◌, refl, ℕ, None, List, [], ◌∷◌, ◌++◌, codes, map}
use Rattle.std.specs.Str.{is_utf8, chars}
use Rattle.std.specs.Char.{encode_utf8}
use Rattle.base64.proofs.OnLiterals.{base64_on_literals}
use Rattle.document_model.specs.Documents.{document_of}
use Rattle.document_model.specs.Items.{piece_at}
use Rattle.document_model.specs.Scopes.{is_sound}
use Rattle.document_model.specs.Canonical.{text_of}
use Rattle.signature_examples.proofs.SmallDocument.{signature, whole, ◌changing◌into◌}
use Rattle.der_values.specs.Element.{element_at, size_at}
use Rattle.der_values.specs.Elements.{elements_up_to}
use Rattle.der_values.specs.Rules.{nth}
use Rattle.signature_objects.specs.Objects.{Octets, Value, Certificate, RevocationList, Token, with_objects, number_of}
use Rattle.signature_objects.specs.Held.{objects}
use Rattle.signature_evidence.specs.Evidence.{Stamped, stamps}

-- equal bytes of one kind are one object; a certificate and a revocation list with the same bytes are two
once : with_objects [] (Octets 1 ∷ Octets 2 ∷ Value ∷ Certificate (7 ∷ []) ∷ Token (8 ∷ []) ∷ Certificate (7 ∷ []) ∷ RevocationList (7 ∷ []) ∷ [])
    ≡ Octets 1 ∷ Octets 2 ∷ Value ∷ Certificate (7 ∷ []) ∷ Token (8 ∷ []) ∷ RevocationList (7 ∷ []) ∷ []
once = refl

number : number_of (Octets 1 ∷ Value ∷ Certificate (7 ∷ []) ∷ RevocationList (7 ∷ []) ∷ []) (RevocationList (7 ∷ [])) ≡ 3
number = refl

-- a signature stamp, values of which one is that of KeyInfo, an archive stamp, further data, and an archive stamp with the token of the first
stamped : List ℕ
stamped = whole changing codes "<xades:UnsignedProperties />" into (codes "<xades:UnsignedProperties><xades:UnsignedSignatureProperties><xades:SignatureTimeStamp><xades:EncapsulatedTimeStamp>MAM=</xades:EncapsulatedTimeStamp></xades:SignatureTimeStamp>"
    ++ codes "<xades:CertificateValues><xades:EncapsulatedX509Certificate>MAE=</xades:EncapsulatedX509Certificate><xades:EncapsulatedX509Certificate>MAI=</xades:EncapsulatedX509Certificate></xades:CertificateValues>"
    ++ codes "<a:ArchiveTimeStamp xmlns:a=\"http://uri.etsi.org/01903/v1.4.1#\"><xades:EncapsulatedTimeStamp>MAQ=</xades:EncapsulatedTimeStamp></a:ArchiveTimeStamp>"
    ++ codes "<a:TimeStampValidationData xmlns:a=\"http://uri.etsi.org/01903/v1.4.1#\"><xades:RevocationValues><xades:CRLValues><xades:EncapsulatedCRLValue>MAU=</xades:EncapsulatedCRLValue></xades:CRLValues></xades:RevocationValues></a:TimeStampValidationData>"
    ++ codes "<a:ArchiveTimeStamp xmlns:a=\"http://uri.etsi.org/01903/v1.4.1#\"><xades:EncapsulatedTimeStamp>MAM=</xades:EncapsulatedTimeStamp></a:ArchiveTimeStamp></xades:UnsignedSignatureProperties></xades:UnsignedProperties>")

-- the numbers: two References 0 and 1, the value 2, the certificate of KeyInfo 3, the first token 4, the second certificate 5, the second
-- token 6, the revocation list 7, and what is handed in 8
objects_of_stamped : let document = document_of stamped in objects document (signature document) (Certificate (0x30 ∷ 9 ∷ []) ∷ [])
    ≡ Octets 1 ∷ Octets 2 ∷ Value ∷ Certificate (0x30 ∷ 1 ∷ []) ∷ Token (0x30 ∷ 3 ∷ []) ∷ Certificate (0x30 ∷ 2 ∷ []) ∷ Token (0x30 ∷ 4 ∷ [])
    ∷ RevocationList (0x30 ∷ 5 ∷ []) ∷ Certificate (0x30 ∷ 9 ∷ []) ∷ []
unfolding is_utf8 chars encode_utf8 document_of piece_at is_sound text_of base64_on_literals stamped elements_up_to nth element_at size_at
objects_of_stamped = refl

-- each archive stamp covers all that stands before it
covers_of_stamped : let document = document_of stamped in map (λ (s : Stamped). s.covers) (stamps (λ name. None) document (signature document))
    ≡ (2 ∷ []) ∷ (0 ∷ 1 ∷ 2 ∷ 3 ∷ 4 ∷ 5 ∷ []) ∷ (0 ∷ 1 ∷ 2 ∷ 3 ∷ 4 ∷ 5 ∷ 6 ∷ 7 ∷ []) ∷ []
unfolding is_utf8 chars encode_utf8 document_of piece_at is_sound text_of base64_on_literals stamped elements_up_to nth element_at size_at
covers_of_stamped = refl
