-- Certificates and CRLs (RFC 5280), as the records of what a walk reads of them.
use Rattle.std.specs.Prelude.{◌≡◌, ℕ, Bool, List, ℤ, Option, Some}
use Rattle.algorithms.specs.SignatureKind.{Holds}
use Rattle.algorithms.specs.declared.signature_kinds.SignatureKind.{SignatureKind}

-- An algorithm that the project doesn't know is none.
pub record Key : Type 0 where
  pub kind : Option SignatureKind
  pub octets : List ℕ

pub record Signature : Type 0 where
  pub kind : Option SignatureKind
  pub signed : List ℕ
  pub octets : List ℕ

-- the signature is of a kind of this project, the key is of that kind, and the kind's verifier answers Good
abbrev pub Verifies : Key → Signature → Type 0
Verifies key signature =
    (kind : SignatureKind) × (signature.kind ≡ Some kind) × (key.kind ≡ Some kind)
    × Holds kind key.octets signature.signed signature.octets

-- Names, serials and the whole are their bytes. The reader has seen to it that the inner and the outer signature algorithm are equal.
pub record Certificate : Type 0 where
  pub whole : List ℕ
  pub issuer : List ℕ
  pub subject : List ℕ
  pub serial : List ℕ
  pub not_before : ℤ
  pub not_after : ℤ
  pub key : Key
  pub signature : Signature
  pub is_ca : Bool
  pub path_len : Option ℕ
  pub signs_certs : Bool
  pub signs_crls : Bool
  pub stamps_time : Bool
  -- it has a critical extension outside the known set
  pub strange : Bool

-- an entry of a CRL, of any reason
pub record Revoked : Type 0 where
  pub serial : List ℕ
  pub date : ℤ

pub record Crl : Type 0 where
  pub whole : List ℕ
  pub issuer : List ℕ
  pub this_update : ℤ
  pub next_update : Option ℤ
  pub signature : Signature
  pub entries : List Revoked
  -- neither it nor an entry has a critical extension
  pub usable : Bool

-- The objects of a pool are numbered by their places. One that is neither a certificate nor a CRL only has its number.
pub data Part : Type 0 where
  certificate : Certificate → Part
  crl : Crl → Part
  other : Part

-- a certificate with its number in the pool
pub record Member : Type 0 where
  pub number : ℕ
  pub certificate : Certificate
