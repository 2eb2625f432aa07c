-- What stands in a whole token, by the places of its parts.
use Rattle.std.specs.Prelude.{◌≡◌, ℕ, List, Some, IsSome, IsTrue}
use Rattle.der_values.specs.Elements.{tagged}
use Rattle.der_values.specs.Rules.{nth, is_digest, bytes_of}
use Rattle.der_values.specs.declared.oids.KnownOid.TheVariants as oids
use Rattle.x509_certs.specs.Lists.{is_tag}
use Rattle.x509_certs.specs.Signed.{part, time_of}
use Rattle.tst_tokens.specs.Digests.{attribute, certificate_id}
use Rattle.tst_tokens.specs.Tokens.{signed_data, content_octets, stamp_info, gen_time, signer_info}

-- genTime is a time that stands there.
abbrev pub HasTime : List ℕ → Type 0
HasTime whole = Some (gen_time whole) ≡ time_of (nth 4 (stamp_info whole))

-- Each part that a name stands for is an element that is there, and each digest is one of the three. SHA-256 counts where
-- signing-certificate-v2 names none (RFC 5035, 4).
pub record HasParts (whole : List ℕ) : Type 0 where
  pub content : IsSome (nth 0 (part 1 (part 2 (signed_data whole))))
  pub stamp : IsSome (nth 0 (content_octets whole))
  pub imprint_kind : IsTrue (is_digest (part 0 (part 0 (part 2 (stamp_info whole)))))
  pub imprint : IsSome (nth 1 (part 2 (stamp_info whole)))
  pub time : HasTime whole
  pub signer_issuer : IsSome (nth 0 (part 1 (signer_info whole)))
  pub signer_serial : IsSome (nth 1 (part 1 (signer_info whole)))
  pub content_kind : IsTrue (is_digest (part 0 (part 2 (signer_info whole))))
  pub attributes : IsSome (nth 3 (signer_info whole))
  pub algorithm : IsSome (nth 0 (part 4 (signer_info whole)))
  pub signature : IsSome (nth 5 (signer_info whole))
  pub message_digest : IsSome (nth 0 (attribute (bytes_of oids.MessageDigest) whole))
  pub cert_hash : IsSome (tagged 0x04 (certificate_id whole))
  pub cert_hash_kind : IsTrue (is_tag 0x30 (nth 0 (certificate_id whole))) → IsTrue (is_digest (part 0 (part 0 (certificate_id whole))))
