-- The issuers that are reached from the anchors, and tables that are right for these alone: a walk has no others.
use Rattle.std.specs.Prelude.{ℕ, ◌<◌, ◌≤◌, ◌⊎◌, Bool, List, length, IsTrue, Vec}
use Rattle.std.specs.Bool.{MatchBool}
use Rattle.std.specs.declared.alloc.Global.{Global}
use Rattle.acceptance.specs.Walks.{IsSigned, IsCrlOf}
use Rattle.cert_paths.specs.declared.rows.CertRow.{CertRow}
use Rattle.cert_paths.specs.declared.rows.IssuerRow.{IssuerRow}
use Rattle.cert_paths.specs.declared.rows.ListRow.{ListRow}
use Rattle.cert_paths.specs.Rows.{member_at, issuer_at, list_at}
use Rattle.cert_paths.specs.Tables.{bit, flag, IsTableOf}

-- a certificate is signed by an issuer that is reached
abbrev pub IsSignedBy : List CertRow → List IssuerRow → List Bool → ℕ → ℕ → Type 0
IsSignedBy certs issuers reached i j = IsTrue (flag reached j) × IsSigned (member_at certs i).certificate (issuer_at issuers j)

-- a CRL speaks for an issuer that is reached
abbrev pub IsSpoken : List ListRow → List IssuerRow → List Bool → ℕ → ℕ → Type 0
IsSpoken lists issuers reached i j = IsTrue (flag reached j) × IsCrlOf (issuer_at issuers j) (list_at lists i)

-- the same, said by an earlier table of the issuers that were known then
abbrev pub IsSignedNext : List CertRow → List IssuerRow → List (Vec Bool Global) → List Bool → List Bool → ℕ → ℕ → Type 0
IsSignedNext certs issuers before known reached i j =
    MatchBool (flag known j) (IsTrue (bit before i j)) (IsSignedBy certs issuers reached i j)

-- the table tells who is signed by which issuers that are reached
abbrev pub IsSignedTable : List CertRow → List IssuerRow → List Bool → List (Vec Bool Global) → Type 0
IsSignedTable certs issuers reached table = IsTableOf (IsSignedBy certs issuers reached) (length certs) (length issuers) table

-- some issuer signed the certificate of a row
abbrev pub HasIssuer : List (Vec Bool Global) → ℕ → ℕ → Type 0
HasIssuer table columns row = (column : ℕ) × (column < columns) × IsTrue (bit table row column)

-- An issuer is an anchor, of which the numbers begin at `first`, or was known, or some issuer signed it.
abbrev pub IsReached : ℕ → ℕ → List Bool → List (Vec Bool Global) → ℕ → Type 0
IsReached first columns known table j = (first ≤ j) ⊎ (IsTrue (flag known j) ⊎ HasIssuer table columns j)

-- The anchors are reached, and each certificate that some issuer signed.
pub record IsClosed (first columns : ℕ) (reached : List Bool) (table : List (Vec Bool Global)) : Type 0 where
  pub anchors : (j : ℕ) → first ≤ j → j < columns → IsTrue (flag reached j)
  pub signed : (j : ℕ) → j < columns → HasIssuer table columns j → IsTrue (flag reached j)
