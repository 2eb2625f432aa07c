-- The digests that a token names: RFC 3161, 2.4.2 (messageImprint); RFC 5652, 5.3 (SignerInfo); RFC 5035, 4 (ESSCertIDv2).
use Rattle.std.specs.Prelude.{ℕ, List, if◌then◌else◌}
use Rattle.std.specs.Str.{bytes_eq}
use Rattle.algorithms.specs.DigestKind.{oid_of}
use Rattle.algorithms.specs.declared.digest_kinds.DigestKind.{DigestKind}
use Rattle.algorithms.specs.declared.digest_kinds.DigestKind.TheVariants.{Sha256, Sha384, Sha512}
use Rattle.der_values.specs.Elements.{tagged, first_named}
use Rattle.der_values.specs.Rules.{nth, content_of, bytes_of}
use Rattle.der_values.specs.declared.oids.KnownOid.TheVariants as oids
use Rattle.x509_certs.specs.Lists.{is_tag}
use Rattle.x509_certs.specs.Signed.{part}
use Rattle.tst_tokens.specs.Tokens.{stamp_info, signer_info}

-- The kind that the content of an OID names. In a token that reads it is one of the three.
abbrev pub kind_of : List ℕ → DigestKind
kind_of oid = if bytes_eq oid (oid_of Sha384) then Sha384 else if bytes_eq oid (oid_of Sha512) then Sha512 else Sha256

-- The imprint holds an algorithm and a digest.
abbrev pub imprint_kind : List ℕ → DigestKind
imprint_kind whole = kind_of (part 0 (part 0 (part 2 (stamp_info whole))))

abbrev pub imprint : List ℕ → List ℕ
imprint whole = part 1 (part 2 (stamp_info whole))

-- The digest algorithm of SignerInfo, by which messageDigest is that of the content's octets.
abbrev pub content_kind : List ℕ → DigestKind
content_kind whole = kind_of (part 0 (part 2 (signer_info whole)))

-- The value of a signed attribute: what stands in its SET.
abbrev pub attribute : List ℕ → List ℕ → List ℕ
attribute name whole = part 1 (content_of (first_named name (part 3 (signer_info whole))))

abbrev pub message_digest : List ℕ → List ℕ
message_digest whole = part 0 (attribute (bytes_of oids.MessageDigest) whole)

-- What the first ESSCertIDv2 of signing-certificate-v2 holds.
abbrev pub certificate_id : List ℕ → List ℕ
certificate_id whole = part 0 (part 0 (part 0 (attribute (bytes_of oids.SigningCertificate) whole)))

-- Its hash algorithm; SHA-256 where none stands.
abbrev pub cert_hash_kind : List ℕ → DigestKind
cert_hash_kind whole =
    if is_tag 0x30 (nth 0 (certificate_id whole)) then kind_of (part 0 (part 0 (certificate_id whole))) else Sha256

abbrev pub cert_hash : List ℕ → List ℕ
cert_hash whole = content_of (tagged 0x04 (certificate_id whole))
