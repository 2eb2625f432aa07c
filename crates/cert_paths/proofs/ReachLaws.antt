-- Tables over the issuers that are reached, level by level.
use Rattle.std.proofs.Common.{◌≡◌, ℕ, ◌<◌, ◌≤◌, Bool, true, false, List, [], length, IsTrue, ◌↔◌, ◌⊎◌, inl, inr, refl, sym, ap, subst, true≢false, Vec, Global}
use Rattle.std.specs.Bool.{MatchBool}
use Rattle.cert_paths.specs.declared.rows.CertRow.{CertRow}
use Rattle.cert_paths.specs.declared.rows.IssuerRow.{IssuerRow}
use Rattle.cert_paths.specs.Reached.{IsSignedBy, IsSignedNext, IsSignedTable, HasIssuer, IsReached, IsClosed}
use Rattle.cert_paths.specs.Tables.{bit, flag, IsRowOf, IsTableOf}

pub nothing_signed : (certs : List CertRow) (issuers : List IssuerRow) → IsSignedTable certs issuers [] []
nothing_signed certs issuers = record { right = λ i j lt lt'. (λ h. absurd (true≢false (sym h)), λ h. absurd (true≢false (sym h.0))) }

pub further_signed : (certs : List CertRow) (issuers : List IssuerRow) (before : List (Vec Bool Global)) (known reached : List Bool) (table : List (Vec Bool Global)) →
    IsSignedTable certs issuers known before → ((j : ℕ) → j < length issuers → IsTrue (flag known j) → IsTrue (flag reached j)) →
    IsTableOf (IsSignedNext certs issuers before known reached) (length certs) (length issuers) table → IsSignedTable certs issuers reached table
further_signed certs issuers before known reached table was stays next = record {
  right = λ i j lt lt'.
      elim (flag known j) as (λ b. flag known j ≡ b → (IsTrue (bit table i j) ↔ MatchBool b (IsTrue (bit before i j)) (IsSignedBy certs issuers reached i j)) → (IsTrue (bit table i j) ↔ IsSignedBy certs issuers reached i j)) [
        | true ↦ λ q both. (
          λ h. let old = (was.right i j lt lt').0 (both.0 h) in (stays j lt' q, old.1),
          λ h. both.1 ((was.right i j lt lt').1 (q, h.1)),
        )
        | false ↦ λ q both. both
      ] refl (next.right i j lt lt');
}

-- where a further level reaches no more
pub closed_at_last : (first columns : ℕ) (known reached : List Bool) (table : List (Vec Bool Global)) → IsRowOf (IsReached first columns known table) columns reached → reached ≡ known →
    IsClosed first columns known table
closed_at_last first columns known reached table row same =
    let P : List Bool → Type 0 = λ r. IsRowOf (IsReached first columns known table) columns r in
    let here : IsRowOf (IsReached first columns known table) columns known = subst P same row in
    record {
      anchors = λ j from below. (here.right j below).1 (inl from);
      signed = λ j below signed. (here.right j below).1 (inr (inr signed));
    }

pub closed_by_all : (first columns : ℕ) (reached : List Bool) (table : List (Vec Bool Global)) → IsRowOf (λ j. j < columns) columns reached → IsClosed first columns reached table
closed_by_all first columns reached table row = record {
  anchors = λ j from below. (row.right j below).1 below;
  signed = λ j below signed. (row.right j below).1 below;
}
