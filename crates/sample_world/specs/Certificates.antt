-- The certificates that a world makes: RFC 5280, 4.1 and 4.2.
use Rattle.std.specs.Prelude.{ℕ, ℤ, ◌+◌, List, [], ◌∷◌, ◌++◌}
use Rattle.xa_io.specs.Tlv.{tlv}
use Rattle.der_values.specs.Rules.{bytes_of}
use Rattle.der_values.specs.declared.oids.KnownOid.{KnownOid}
use Rattle.der_values.specs.declared.oids.KnownOid.TheVariants.{BasicConstraints, KeyUsage, ExtKeyUsage, TimeStamping}
use Rattle.sample_world.specs.declared.certificates.Role.{Role}
use Rattle.sample_world.specs.declared.certificates.Role.TheVariants.{Authority, Signer, Stamper}
use Rattle.sample_world.specs.Moments.{time}
use Rattle.sample_world.specs.Parts.{integer, bit_string, algorithm, name}

-- a critical extension with this value (4.2)
unfoldable pub extension : KnownOid → List ℕ → List ℕ
extension oid value = tlv 0x30 (tlv 0x06 (bytes_of oid) ++ (tlv 0x01 (0xFF ∷ []) ++ tlv 0x04 value))

-- basicConstraints with cA (4.2.1.9)
abbrev pub may_issue : List ℕ
may_issue = tlv 0x30 (tlv 0x01 (0xFF ∷ []))

-- keyUsage with keyCertSign and cRLSign, which are bits 5 and 6 from the left (4.2.1.3)
abbrev pub signs_both : List ℕ
signs_both = tlv 0x03 (1 ∷ 0x06 ∷ [])

-- extKeyUsage with id-kp-timeStamping alone (4.2.1.12)
abbrev pub stamps_alone : List ℕ
stamps_alone = tlv 0x30 (tlv 0x06 (bytes_of TimeStamping))

-- the extensions of a role, in [3]; a signer has none
unfoldable pub extensions : Role → List ℕ
extensions Authority = tlv 0xA3 (tlv 0x30 (extension BasicConstraints may_issue ++ extension KeyUsage signs_both))
extensions Stamper = tlv 0xA3 (tlv 0x30 (extension ExtKeyUsage stamps_alone))
extensions Signer = []

-- the validity (4.1.2.5)
unfoldable pub validity : (from to : ℤ) → List ℕ
validity from to = tlv 0x30 (time from ++ time to)

-- the key of a subject (4.1.2.7)
unfoldable pub key_info : List ℕ → List ℕ
key_info key = tlv 0x30 (algorithm ++ bit_string key)

-- version 3, the subject's serial, the algorithm and the issuer
unfoldable pub certificate_front : (issuer subject : ℕ) → List ℕ
certificate_front issuer subject = tlv 0xA0 (tlv 0x02 (2 ∷ [])) ++ (integer (subject + 1) ++ (algorithm ++ name issuer))

-- the subject, its key and its extensions
unfoldable pub certificate_back : (subject : ℕ) → Role → List ℕ → List ℕ
certificate_back subject role key = name subject ++ (key_info key ++ extensions role)

-- what an issuer signs (4.1)
unfoldable pub certificate_fields : (issuer subject : ℕ) → (from to : ℤ) → Role → List ℕ → List ℕ
certificate_fields issuer subject from to role key =
    certificate_front issuer subject ++ (validity from to ++ certificate_back subject role key)
