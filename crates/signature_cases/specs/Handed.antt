-- Certificates and revocation lists that are handed in, one after another: RFC 5280, sections 4.1 and 5.1.
use Rattle.std.specs.Prelude.{◌≡◌, ℕ, List}
use Rattle.std.specs.List.{All, concat}
use Rattle.der_values.specs.Fits.{IsObject}
use Rattle.x509_certs.specs.Data.{layout_of}

-- octets of one whole object: a certificate where what is signed begins with [0], else a revocation list
abbrev pub IsWholePart : List ℕ → Type 0
IsWholePart octets = IsObject (layout_of octets) octets

-- the bytes are whole objects one after another
pub record IsMaterial (bytes : List ℕ) : Type 0 where
  pub parts : List (List ℕ)
  pub whole : All IsWholePart parts
  pub joined : concat parts ≡ bytes
