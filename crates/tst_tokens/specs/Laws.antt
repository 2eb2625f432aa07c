-- Laws of tokens.
use Rattle.std.specs.Prelude.{◌≡◌, ℕ, List, IsTrue, ◌↔◌}
use Rattle.algorithms.specs.DigestKind.{oid_of}
use Rattle.algorithms.specs.declared.digest_kinds.DigestKind.{DigestKind}
use Rattle.der_values.specs.Fits.{IsObject}
use Rattle.der_values.specs.Rules.{is_digest}
use Rattle.x509_certs.specs.Layouts.{certificate, revocation_list}
use Rattle.tst_tokens.specs.Layouts.{token}
use Rattle.tst_tokens.specs.Whole.{HasParts}

-- The digests that a layout lets stand are those of the kinds, and no other.
abbrev pub DigestsAreOfKinds : Type 0
DigestsAreOfKinds = (oid : List ℕ) → (IsTrue (is_digest oid) ↔ ((kind : DigestKind) × (oid ≡ oid_of kind)))

-- In a whole token the parts stand that are named.
abbrev pub PartsStand : Type 0
PartsStand = (whole : List ℕ) → IsObject token whole → HasParts whole

-- No octets are both a token and a certificate, or a token and a CRL.
abbrev pub TokensAreApart : Type 0
TokensAreApart = (whole : List ℕ) → IsObject token whole → (¬ (IsObject certificate whole)) × (¬ (IsObject revocation_list whole))
