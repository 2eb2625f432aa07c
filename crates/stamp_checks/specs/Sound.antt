-- Whether octets are a time-stamp token over other octets, and what first stands against it: RFC 3161, sections 2.3 and 2.4.2; RFC 5652,
-- sections 5.4, 5.6 and 11.2; RFC 5035, section 5.
use Rattle.std.specs.Prelude.{◌≡◌, ℕ, List, Err}
use Rattle.algorithms.specs.Digests.{digest_of}
use Rattle.der_values.specs.Fits.{IsObject}
use Rattle.der_values.specs.Layout.{read_object}
use Rattle.tst_tokens.specs.Digests.{imprint_kind}
use Rattle.tst_tokens.specs.Layouts as layouts
use Rattle.tst_tokens.specs.Sound.{IsFirst, IsSound}
use Rattle.tst_tokens.specs.declared.fault.TokenFault.{TokenFault}
use Rattle.tst_tokens.specs.declared.fault.TokenFault.TheVariants as faults

-- what the imprint has to be: the digest of the covered octets by its own algorithm
abbrev pub covered_digest : (covered token : List ℕ) → List ℕ
covered_digest covered token = digest_of (imprint_kind token) covered

-- a token is sound over octets
abbrev pub IsSoundOver : (covered token : List ℕ) → Type 0
IsSoundOver covered token = IsSound (covered_digest covered token) token

-- octets are one whole token, and it is
abbrev pub IsStampOver : (covered token : List ℕ) → Type 0
IsStampOver covered token = IsObject layouts.token token × IsSoundOver covered token

-- what first stands against a whole token
abbrev pub IsFirstOfWhole : (covered token : List ℕ) → TokenFault → Type 0
IsFirstOfWhole covered token fault = IsObject layouts.token token × IsFirst (covered_digest covered token) token fault

-- What first stands against octets: the first bad element where they are no token, else what makes the token unsound. Memory may always be
-- wanting.
abbrev pub IsFirstOver : (covered token : List ℕ) → TokenFault → Type 0
IsFirstOver covered token (faults.Shape at) = read_object layouts.token token ≡ Err at
IsFirstOver covered token (faults.ImprintDiffers got want) = IsFirstOfWhole covered token (faults.ImprintDiffers got want)
IsFirstOver covered token (faults.ContentDigestDiffers got want) = IsFirstOfWhole covered token (faults.ContentDigestDiffers got want)
IsFirstOver covered token faults.NoSigner = IsFirstOfWhole covered token faults.NoSigner
IsFirstOver covered token (faults.CertHashDiffers got want) = IsFirstOfWhole covered token (faults.CertHashDiffers got want)
IsFirstOver covered token faults.Purpose = IsFirstOfWhole covered token faults.Purpose
IsFirstOver covered token faults.UnknownKind = IsFirstOfWhole covered token faults.UnknownKind
IsFirstOver covered token faults.Fails = IsFirstOfWhole covered token faults.Fails
IsFirstOver covered token faults.OutOfMemory = Unit {0}
