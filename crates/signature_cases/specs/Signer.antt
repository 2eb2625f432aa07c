-- The key of the signing certificate for a signature of a kind: XML Signature 1.1, "Signature Validation".
use Rattle.std.specs.Prelude.{◌≡◌, ◌↔◌, ℕ, false, IsTrue, List, Option, Some, None}
use Rattle.algorithms.specs.declared.signature_kinds.SignatureKind.{SignatureKind}
use Rattle.acceptance.specs.Certificates.{Verifies}
use Rattle.acceptance.specs.Objects.{certificate_of}
use Rattle.signature_objects.specs.Objects.{Object, Certificate, number_of}
use Rattle.signature_cases.specs.declared.cases.SigningCert.{SigningCert}
use Rattle.signature_cases.specs.declared.keys.KeyFor.{KeyFor}

-- it is of the kind, and a value over octets verifies under it
pub record IsKeyFor (kind : SignatureKind) (certificate signed value : List ℕ) (key : KeyFor) : Type 0 where
  pub keyed : IsTrue key.keyed ↔ ((certificate_of certificate).key.kind ≡ Some kind)
  pub verifies : IsTrue key.verifies ↔ Verifies (certificate_of certificate).key (record { kind = Some kind; signed = signed; octets = value })

-- neither is where there is no kind or no certificate
abbrev pub HasKeyFor : Option SignatureKind → Option SigningCert → (signed value : List ℕ) → KeyFor → Type 0
HasKeyFor None signer signed value key = (key.keyed ≡ false) × (key.verifies ≡ false)
HasKeyFor (Some kind) None signed value key = (key.keyed ≡ false) × (key.verifies ≡ false)
HasKeyFor (Some kind) (Some signer) signed value key = IsKeyFor kind signer.octets.now signed value key

-- a certificate in memory, with the number that it has among some objects
pub record IsCert (objects : List Object) (bytes : List ℕ) (cert : SigningCert) : Type 0 where
  pub octets : cert.octets.now ≡ bytes
  pub number : cert.object.number ≡ number_of objects (Certificate bytes)

-- where there is one
abbrev pub IsCertOf : List Object → Option (List ℕ) → Option SigningCert → Type 0
IsCertOf objects None None = Unit {0}
IsCertOf objects None (Some cert) = ⊥
IsCertOf objects (Some bytes) None = ⊥
IsCertOf objects (Some bytes) (Some cert) = IsCert objects bytes cert
