-- The numbers of a chart, and when they speak of a pool.
use Rattle.std.specs.Prelude.{ℕ, Bool, true, false, ◌&&◌, not, nat_le, length, slice_get, Option, Some, None}
use Rattle.cert_paths.specs.declared.chart.Chart.{Chart}
use Rattle.cert_paths.specs.declared.rows.CertRow.{CertRow}
use Rattle.cert_paths.specs.declared.rows.IssuerRow.{IssuerRow}
use Rattle.cert_paths.specs.Numbered.{Issuing}
use Rattle.cert_paths.specs.Tables.{bit}

abbrev pub is_within : ℕ → Option ℕ → Bool
is_within counted None = true
is_within counted (Some most) = nat_le counted most

-- the path length of an issuer; where there is none, any
abbrev pub limit_in : Option IssuerRow → Option ℕ
limit_in None = None
limit_in (Some row) = row.path_len

abbrev pub counts_in : Option CertRow → Bool
counts_in None = false
counts_in (Some row) = not row.self_issued

abbrev pub issuing_of : Chart → Issuing
issuing_of chart = record {
  size = length chart.certs.now;
  reach = length chart.issuers.now;
  linked = λ counted c i. bit chart.bits.now c i && is_within counted (limit_in (slice_get chart.issuers.now i));
  counts = λ c. counts_in (slice_get chart.certs.now c);
}
