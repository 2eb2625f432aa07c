-- The time-stamp tokens that a world makes: RFC 3161, 2.4.2, in SignedData of RFC 5652; RFC 5035, 3 and 4.
use Rattle.std.specs.Prelude.{ℕ, ℤ, List, [], ◌∷◌, ◌++◌, if◌then◌else◌, ◌==◌}
use Rattle.xa_io.specs.Tlv.{tlv}
use Rattle.algorithms.specs.DigestKind.{oid_of}
use Rattle.algorithms.specs.Digests.{digest_of}
use Rattle.algorithms.specs.declared.digest_kinds.DigestKind.{DigestKind}
use Rattle.algorithms.specs.declared.digest_kinds.DigestKind.TheVariants.{Sha256, Sha384, Sha512}
use Rattle.der_values.specs.Rules.{bytes_of}
use Rattle.der_values.specs.declared.oids.KnownOid.{KnownOid}
use Rattle.der_values.specs.declared.oids.KnownOid.TheVariants.{SignedData, TstInfo, ContentType, MessageDigest, SigningCertificate}
use Rattle.x509_certs.specs.Certificates as certificate
use Rattle.sample_world.specs.Moments.{generalized_time}
use Rattle.sample_world.specs.Parts.{integer, algorithm}

-- an OBJECT IDENTIFIER by its name
abbrev pub oid : KnownOid → List ℕ
oid name = tlv 0x06 (bytes_of name)

-- the AlgorithmIdentifier of a digest, without parameters (RFC 5754, 2)
unfoldable pub digest_algorithm : DigestKind → List ℕ
digest_algorithm kind = tlv 0x30 (tlv 0x06 (oid_of kind))

-- 1.3.6.1.4.1.99999.1
abbrev pub policy : List ℕ
policy = 0x2B ∷ 0x06 ∷ 0x01 ∷ 0x04 ∷ 0x01 ∷ 0x86 ∷ 0x8D ∷ 0x1F ∷ 0x01 ∷ []

-- the MessageImprint of a digest (RFC 3161, 2.4.1)
unfoldable pub imprint : DigestKind → List ℕ → List ℕ
imprint kind covered = tlv 0x30 (digest_algorithm kind ++ tlv 0x04 covered)

-- an Accuracy of whole seconds, which is left out where it is 0
unfoldable pub accuracy_of : ℕ → List ℕ
accuracy_of seconds = if seconds == 0 then [] else tlv 0x30 (integer seconds)

-- genTime, and the accuracy behind it
unfoldable pub time_within : ℤ → (accuracy : ℕ) → List ℕ
time_within gen_time accuracy = generalized_time gen_time ++ accuracy_of accuracy

-- TSTInfo: version 1, policy, imprint, serial, genTime, an accuracy, and nothing else that is optional
unfoldable pub stamp_info : DigestKind → (covered : List ℕ) → (serial : ℕ) → ℤ → (accuracy : ℕ) → List ℕ
stamp_info kind covered serial gen_time accuracy =
    tlv 0x30 ((tlv 0x02 (1 ∷ []) ++ tlv 0x06 policy)
    ++ (imprint kind covered ++ (integer serial ++ time_within gen_time accuracy)))

-- the content that is signed, which is TSTInfo (RFC 5652, 5.2)
unfoldable pub content : List ℕ → List ℕ
content info = tlv 0x30 (oid TstInfo ++ tlv 0xA0 (tlv 0x04 info))

-- an attribute of one value (RFC 5652, 5.3)
unfoldable pub attribute : KnownOid → List ℕ → List ℕ
attribute name value = tlv 0x30 (oid name ++ tlv 0x31 value)

-- the hash algorithm of a certificate's hash: SHA-256 is the default, which DER leaves out (X.690, 11.5)
unfoldable pub hash_algorithm : DigestKind → List ℕ
hash_algorithm Sha256 = []
hash_algorithm Sha384 = digest_algorithm Sha384
hash_algorithm Sha512 = digest_algorithm Sha512

-- SigningCertificateV2 with one ESSCertIDv2, which has no issuer and serial (RFC 5035, 3 and 4)
unfoldable pub signing_certificate : DigestKind → (whole : List ℕ) → List ℕ
signing_certificate kind whole = tlv 0x30 (tlv 0x30 (tlv 0x30 (hash_algorithm kind ++ tlv 0x04 (digest_of kind whole))))

-- the signed attributes, in the order of DER: contentType, messageDigest, signing-certificate-v2
unfoldable pub attributes : DigestKind → (info whole : List ℕ) → List ℕ
attributes kind info whole =
    attribute ContentType (oid TstInfo) ++ (attribute MessageDigest (tlv 0x04 (digest_of kind info))
    ++ attribute SigningCertificate (signing_certificate kind whole))

-- the issuer and the serial of the signer's certificate
unfoldable pub signer_name : (whole : List ℕ) → List ℕ
signer_name whole = tlv 0x30 (certificate.issuer whole ++ tlv 0x02 (certificate.serial whole))

-- SignerInfo of version 1 (RFC 5652, 5.3)
unfoldable pub signer_info : DigestKind → (whole signed signature : List ℕ) → List ℕ
signer_info kind whole signed signature =
    tlv 0x30 ((tlv 0x02 (1 ∷ []) ++ (signer_name whole ++ digest_algorithm kind))
    ++ (tlv 0xA0 signed ++ (algorithm ++ tlv 0x04 signature)))

-- SignedData of version 3 with one certificate and one SignerInfo (RFC 5652, 5.1)
unfoldable pub signed_data : DigestKind → (info whole signer : List ℕ) → List ℕ
signed_data kind info whole signer =
    tlv 0x30 ((tlv 0x02 (3 ∷ []) ++ tlv 0x31 (digest_algorithm kind)) ++ (content info ++ (tlv 0xA0 whole ++ tlv 0x31 signer)))

-- ContentInfo of SignedData (RFC 5652, 3)
unfoldable pub token : List ℕ → List ℕ
token signed = tlv 0x30 (oid SignedData ++ tlv 0xA0 signed)
