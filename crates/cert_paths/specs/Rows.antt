-- What the rows of the code stand for, and which certificates may be linked.
use Rattle.std.specs.Prelude.{◌≡◌, ℕ, List, [], map, slice_get, Option, Some, None, ℤ, ◌≤ℤ◌, ◌<◌, ◌≤◌, length, if◌then◌else◌}
use Rattle.std.specs.Str.{bytes_eq}
use Rattle.policy_rules.specs.Rules.{Rules}
use Rattle.x509_certs.specs.Certificates as certificates
use Rattle.x509_certs.specs.Lists as lists
use Rattle.x509_certs.specs.View.{certificate_bytes, list_bytes}
use Rattle.acceptance.specs.Certificates.{Certificate, Crl, Part, certificate, crl, Member}
use Rattle.acceptance.specs.Objects.{certificate_of, crl_of}
use Rattle.acceptance.specs.Policy.{AcceptsSignature}
use Rattle.acceptance.specs.Walks.{time, HasCertificate, HasCrl}
use Rattle.cert_paths.specs.Pool.{part_numbers}
use Rattle.cert_paths.specs.declared.rows.CertRow.{CertRow}
use Rattle.cert_paths.specs.declared.rows.IssuerRow.{IssuerRow}
use Rattle.cert_paths.specs.declared.rows.ListRow.{ListRow}

abbrev pub member_of : CertRow → Member
member_of row = record { number = row.object.number; certificate = certificate_of (certificate_bytes row.certificate) }

abbrev pub issuer_of : IssuerRow → Certificate
issuer_of row = certificate_of (certificate_bytes row.certificate)

abbrev pub list_of : ListRow → Crl
list_of row = crl_of (list_bytes row.list)

-- the member, issuer or CRL of a row; of a row that isn't there, any
abbrev pub member_in : Option CertRow → Member
member_in None = record { number = 0; certificate = certificate_of [] }
member_in (Some row) = member_of row

abbrev pub issuer_in : Option IssuerRow → Certificate
issuer_in None = certificate_of []
issuer_in (Some row) = issuer_of row

abbrev pub list_in : Option ListRow → Crl
list_in None = crl_of []
list_in (Some row) = list_of row

abbrev pub member_at : List CertRow → ℕ → Member
member_at rows k = member_in (slice_get rows k)

abbrev pub issuer_at : List IssuerRow → ℕ → Certificate
issuer_at rows k = issuer_in (slice_get rows k)

abbrev pub list_at : List ListRow → ℕ → Crl
list_at rows k = list_in (slice_get rows k)

-- the rows are the certificates of the pool
pub record AreCertificates (pool : List Part) (rows : List CertRow) : Type 0 where
  pub there : (k : ℕ) (row : CertRow) → slice_get rows k ≡ Some row → HasCertificate pool (member_of row)
  pub each : (m : Member) → HasCertificate pool m → (k : ℕ) × (row : CertRow) × (slice_get rows k ≡ Some row) × (member_of row ≡ m)

-- the rows are the CRLs of the pool
pub record AreLists (pool : List Part) (rows : List ListRow) : Type 0 where
  pub there : (k : ℕ) (row : ListRow) → slice_get rows k ≡ Some row → HasCrl pool row.object.number (list_of row)
  pub each : (n : ℕ) (l : Crl) → HasCrl pool n l → (k : ℕ) × (row : ListRow) × (slice_get rows k ≡ Some row) × (row.object.number ≡ n) × (list_of row ≡ l)

-- a certificate may have its signature, its beginning and its end, for a walk with `low` and `at`
pub record IsInTime (policy : Rules) (times : List ℤ) (low at : ℤ) (c : Member) : Type 0 where
  pub kind : AcceptsSignature policy c.certificate.signature (time times c.number)
  pub begun : c.certificate.not_before ≤ℤ low
  pub lasts : at ≤ℤ c.certificate.not_after

-- The earliest date at which a CRL of the issuer that the certificate names lists it. Of a CRL with another name none is asked.
abbrev pub date_of : (listed list : List ℕ) → Option ℤ
date_of listed list =
    if bytes_eq (lists.list_issuer list) (certificates.issuer listed) then lists.revoked (certificates.serial listed) list else None

-- these dates, for each CRL
abbrev pub dates_of : CertRow → List ListRow → List (Option ℤ)
dates_of c rows = map (λ (l : ListRow). date_of (certificate_bytes c.certificate) (list_bytes l.list)) rows

-- the certificate of a row has these bytes; none has that isn't there
abbrev pub HasBytes : List ℕ → Option CertRow → Type 0
HasBytes bytes None = ⊥
HasBytes bytes (Some row) = certificate_bytes row.certificate ≡ bytes

-- the rows are the certificates among the first parts
pub record AreCertificatesTo (pool : List Part) (rows : List CertRow) (n : ℕ) : Type 0 where
  pub there : (k : ℕ) (row : CertRow) → slice_get rows k ≡ Some row → HasCertificate pool (member_of row)
  pub each : (j k : ℕ) (c : Certificate) → j < n → slice_get (part_numbers pool) j ≡ Some k → slice_get pool k ≡ Some (certificate c) →
      (i : ℕ) × (row : CertRow) × (slice_get rows i ≡ Some row) × (row.object.number ≡ k) × ((member_of row).certificate ≡ c)
  pub few : length rows ≤ n

-- the rows are the CRLs among the first parts
pub record AreListsTo (pool : List Part) (rows : List ListRow) (n : ℕ) : Type 0 where
  pub there : (k : ℕ) (row : ListRow) → slice_get rows k ≡ Some row → HasCrl pool row.object.number (list_of row)
  pub each : (j k : ℕ) (l : Crl) → j < n → slice_get (part_numbers pool) j ≡ Some k → slice_get pool k ≡ Some (crl l) →
      (i : ℕ) × (row : ListRow) × (slice_get rows i ≡ Some row) × (row.object.number ≡ k) × (list_of row ≡ l)
