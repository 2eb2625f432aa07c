-- The certificates, CRLs and tokens that a world makes, by its ledger before the call.
use Rattle.std.specs.Prelude.{ℕ, ℤ, ◌+◌, List, Option}
use Rattle.xa_io.specs.Tlv.{tlv}
use Rattle.sample_world.specs.World.{Ledger, counted, key_of, signature_of}
use Rattle.sample_world.specs.declared.certificates.Role.{Role}
use Rattle.sample_world.specs.Parts.{signed_object}
use Rattle.sample_world.specs.Certificates.{certificate_fields}
use Rattle.sample_world.specs.Lists.{list_fields}
use Rattle.algorithms.specs.declared.digest_kinds.DigestKind.{DigestKind}
use Rattle.sample_world.specs.Tokens.{stamp_info, attributes, signer_info, signed_data, token}

-- the object of these fields, with the signature that LMS key j makes next
abbrev pub signed_of : Ledger → ℕ → List ℕ → List ℕ
signed_of w j fields = signed_object (tlv 0x30 fields) (signature_of w j (tlv 0x30 fields))

-- the certificate that the issuer's key signs next
abbrev pub certificate_of : Ledger → (issuer subject : ℕ) → (from to : ℤ) → Role → List ℕ
certificate_of w issuer subject from to role =
    signed_of w issuer (certificate_fields issuer subject from to role (key_of w 1 subject))

-- the CRL that the issuer's key signs next, with at most one entry
abbrev pub list_of : Ledger → (issuer : ℕ) → (from next : ℤ) → Option (ℕ × ℤ) → List ℕ
list_of w issuer from next revoked = signed_of w issuer (list_fields issuer from next revoked)

-- the token of this TSTInfo: the signature, which the signer's key makes next, is over the attributes as a SET (RFC 5652, 5.4)
abbrev pub token_with : Ledger → (signer : ℕ) → (whole : List ℕ) → DigestKind → (info : List ℕ) → List ℕ
token_with w signer whole kind info =
    let signed = attributes kind info whole in
    token (signed_data kind info whole (signer_info kind whole signed (signature_of w signer (tlv 0x31 signed))))

-- the token over a covered digest, with an accuracy in seconds; its serial is the number of the tokens before it and 1
abbrev pub token_within : Ledger → (signer : ℕ) → (whole covered : List ℕ) → DigestKind → ℤ → (accuracy : ℕ) → List ℕ
token_within w signer whole covered kind gen_time accuracy =
    token_with w signer whole kind (stamp_info kind covered (w.tokens + 1) gen_time accuracy)

-- the token without an accuracy
abbrev pub token_of : Ledger → (signer : ℕ) → (whole covered : List ℕ) → DigestKind → ℤ → List ℕ
token_of w signer whole covered kind gen_time = token_within w signer whole covered kind gen_time 0

-- a world in which LMS key j has made one signature more, for a token
abbrev pub token_counted : Ledger → ℕ → Ledger
token_counted w j = record (counted w j) { tokens = w.tokens + 1 }
