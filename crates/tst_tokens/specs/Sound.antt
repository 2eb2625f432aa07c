-- Whether a token is sound over a digest, and the first fault of one that isn't: RFC 3161, 2.3 and 2.4.2; RFC 5652, 5.4, 5.6 and 11.2; RFC 5035, 5.
use Rattle.std.specs.Prelude.{◌≡◌, ℕ, List, ◌∷◌, drop, None, IsSome, IsTrue}
use Rattle.algorithms.specs.Digests.{digest_of}
use Rattle.algorithms.specs.SignatureKind.{oid_of, Holds}
use Rattle.algorithms.specs.declared.signature_kinds.SignatureKind.{SignatureKind}
use Rattle.der_values.specs.Rules.{whole_of}
use Rattle.x509_certs.specs.Certificates.{stamps_time, key_oid, key}
use Rattle.x509_certs.specs.Signed.{part, piece}
use Rattle.tst_tokens.specs.Digests.{imprint, message_digest, content_kind, cert_hash, cert_hash_kind}
use Rattle.tst_tokens.specs.Tokens.{content_octets, signer_info, signer_of, sign_oid}
use Rattle.tst_tokens.specs.declared.fault.TokenFault.{TokenFault}
use Rattle.tst_tokens.specs.declared.fault.TokenFault.TheVariants as faults

-- The signer's certificate, all its bytes.
abbrev pub signer : List ℕ → List ℕ
signer whole = whole_of (signer_of whole)

-- What messageDigest has to be: the digest of the content's octets (RFC 5652, 5.4).
abbrev pub content_digest : List ℕ → List ℕ
content_digest whole = digest_of (content_kind whole) (content_octets whole)

-- What the hash of signing-certificate-v2 has to be: the digest of the signer's certificate (RFC 5035, 4).
abbrev pub signer_digest : List ℕ → List ℕ
signer_digest whole = digest_of (cert_hash_kind whole) (signer whole)

-- Signed attributes, all their bytes, as they are signed: with the tag of a SET, 31, in place of that of [0] (RFC 5652, 5.4).
abbrev pub as_set : List ℕ → List ℕ
as_set attributes = 0x31 ∷ drop 1 attributes

abbrev pub signed_text : List ℕ → List ℕ
signed_text whole = as_set (piece 3 (signer_info whole))

-- The bytes of the signature.
abbrev pub signature : List ℕ → List ℕ
signature whole = part 5 (signer_info whole)

-- A signature and a key with these algorithms are both of this kind.
abbrev pub IsOf : SignatureKind → (of_signature of_key : List ℕ) → Type 0
IsOf kind of_signature of_key = (of_signature ≡ oid_of kind) × (of_key ≡ oid_of kind)

-- No kind is that of both.
abbrev pub IsOfNone : (of_signature of_key : List ℕ) → Type 0
IsOfNone of_signature of_key = (kind : SignatureKind) → ¬ (IsOf kind of_signature of_key)

-- What makes a token sound over a digest, in the order in which it is asked. Each has what those before it have.
-- The imprint is the covered digest.
abbrev pub HasImprint : (covered whole : List ℕ) → Type 0
HasImprint covered whole = imprint whole ≡ covered

-- messageDigest is the digest of the content's octets.
abbrev pub HasContent : (covered whole : List ℕ) → Type 0
HasContent covered whole = HasImprint covered whole × (message_digest whole ≡ content_digest whole)

-- The signer's certificate is among those of the token.
abbrev pub HasSigner : (covered whole : List ℕ) → Type 0
HasSigner covered whole = HasContent covered whole × IsSome (signer_of whole)

-- signing-certificate-v2 names that certificate.
abbrev pub NamesSigner : (covered whole : List ℕ) → Type 0
NamesSigner covered whole = HasSigner covered whole × (cert_hash whole ≡ signer_digest whole)

-- The certificate is for stamping time.
abbrev pub HasPurpose : (covered whole : List ℕ) → Type 0
HasPurpose covered whole = NamesSigner covered whole × IsTrue (stamps_time (signer whole))

-- The signature and the signer's key are of one kind.
abbrev pub HasKind : (covered whole : List ℕ) → SignatureKind → Type 0
HasKind covered whole kind = HasPurpose covered whole × IsOf kind (sign_oid whole) (key_oid (signer whole))

-- The signature holds for the signed attributes.
abbrev pub HoldsBy : List ℕ → SignatureKind → Type 0
HoldsBy whole kind = Holds kind (key (signer whole)) (signed_text whole) (signature whole)

abbrev pub IsSound : (covered whole : List ℕ) → Type 0
IsSound covered whole = (kind : SignatureKind) × (HasKind covered whole kind × HoldsBy whole kind)

-- The first that is asked and isn't so.
abbrev pub LacksSigner : (covered whole : List ℕ) → Type 0
LacksSigner covered whole = HasContent covered whole × (signer_of whole ≡ None)

abbrev pub LacksPurpose : (covered whole : List ℕ) → Type 0
LacksPurpose covered whole = NamesSigner covered whole × ¬ (IsTrue (stamps_time (signer whole)))

abbrev pub LacksKind : (covered whole : List ℕ) → Type 0
LacksKind covered whole = HasPurpose covered whole × IsOfNone (sign_oid whole) (key_oid (signer whole))

abbrev pub LacksSignature : (covered whole : List ℕ) → Type 0
LacksSignature covered whole = (kind : SignatureKind) × (HasKind covered whole kind × ¬ (HoldsBy whole kind))

-- The fault is the first, with the computed digest and the bytes of the token where these differ.
-- Want of memory is no answer where nothing has to be kept or put together.
abbrev pub IsFirst : (covered whole : List ℕ) → TokenFault → Type 0
IsFirst covered whole (faults.Shape at) = ⊥
IsFirst covered whole (faults.ImprintDiffers got want) = (¬ (HasImprint covered whole)) × (got ≡ covered) × (want ≡ imprint whole)
IsFirst covered whole (faults.ContentDigestDiffers got want) =
    HasImprint covered whole × (¬ (message_digest whole ≡ content_digest whole)) × (got ≡ content_digest whole) × (want ≡ message_digest whole)
IsFirst covered whole faults.NoSigner = LacksSigner covered whole
IsFirst covered whole (faults.CertHashDiffers got want) =
    HasSigner covered whole × (¬ (cert_hash whole ≡ signer_digest whole)) × (got ≡ signer_digest whole) × (want ≡ cert_hash whole)
IsFirst covered whole faults.Purpose = LacksPurpose covered whole
IsFirst covered whole faults.UnknownKind = LacksKind covered whole
IsFirst covered whole faults.Fails = LacksSignature covered whole
IsFirst covered whole faults.OutOfMemory = (¬ (LacksSigner covered whole)) × (¬ (LacksPurpose covered whole)) × (¬ (LacksKind covered whole))
