-- What the CRLs of a pool tell of a certificate, by the rows of the code.
use Rattle.std.specs.Prelude.{◌≡◌, ℕ, ◌<◌, Bool, List, [], length, slice_get, slice_index_or, Option, Some, None, ℤ, ◌≤ℤ◌, IsTrue, Vec}
use Rattle.std.specs.declared.alloc.Global.{Global}
use Rattle.policy_rules.specs.Rules.{Rules}
use Rattle.acceptance.specs.Certificates.{Crl}
use Rattle.acceptance.specs.Policy.{AcceptsSignature}
use Rattle.acceptance.specs.Walks.{time}
use Rattle.cert_paths.specs.declared.rows.CertRow.{CertRow}
use Rattle.cert_paths.specs.declared.rows.ListRow.{ListRow}
use Rattle.cert_paths.specs.Rows.{list_of}
use Rattle.cert_paths.specs.Tables.{bit}

-- no later than an end that is given
abbrev pub IsUntil : ℤ → Option ℤ → Type 0
IsUntil at None = ⊥
IsUntil at (Some end) = at ≤ℤ end

-- a date that is given, and that is no later
abbrev pub IsBy : ℤ → Option ℤ → Type 0
IsBy at None = ⊥
IsBy at (Some date) = date ≤ℤ at

-- a CRL tells the status of a certificate with this end at a moment
pub record IsListCurrent (policy : Rules) (times : List ℤ) (at end : ℤ) (number : ℕ) (list : Crl) : Type 0 where
  pub until : IsUntil at list.next_update
  pub in_life : list.this_update ≤ℤ end
  pub kind : AcceptsSignature policy list.signature (time times number)

-- the CRL of a row does; none does that isn't there
abbrev pub IsCurrentAt : Rules → List ℤ → ℤ → ℤ → Option ListRow → Type 0
IsCurrentAt policy times at end None = ⊥
IsCurrentAt policy times at end (Some row) = IsListCurrent policy times at end row.object.number (list_of row)

-- some CRL of the issuer does
abbrev pub SomeCurrent : Rules → List ℤ → ℤ → ℤ → List ListRow → List (Vec Bool Global) → ℕ → Type 0
SomeCurrent policy times at end rows speaks issuer =
    (k : ℕ) × (k < length rows) × IsTrue (bit speaks k issuer) × IsCurrentAt policy times at end (slice_get rows k)

-- some CRL of the issuer lists the certificate with a date up to the moment
abbrev pub SomeRevoked : List (Option ℤ) → List (Vec Bool Global) → ℕ → ℤ → Type 0
SomeRevoked dates speaks issuer at =
    (k : ℕ) × (k < length dates) × IsBy at (slice_index_or dates k None) × IsTrue (bit speaks k issuer)

-- some CRL is the issuer's
abbrev pub SomeSpeaks : ℕ → List (Vec Bool Global) → ℕ → Type 0
SomeSpeaks count speaks issuer = (k : ℕ) × (k < count) × IsTrue (bit speaks k issuer)

-- the dates of a row; those of one that isn't there are none
abbrev pub dates_in : Option (Vec (Option ℤ) Global) → List (Option ℤ)
dates_in None = []
dates_in (Some row) = row.items

-- each CRL has a time
abbrev pub HaveTimes : List ListRow → List ℤ → Type 0
HaveTimes rows times = (k : ℕ) (row : ListRow) → slice_get rows k ≡ Some row → row.object.number < length times

-- each certificate has a time
abbrev pub HaveTimesOf : List CertRow → List ℤ → Type 0
HaveTimesOf rows times = (k : ℕ) (row : CertRow) → slice_get rows k ≡ Some row → row.object.number < length times
