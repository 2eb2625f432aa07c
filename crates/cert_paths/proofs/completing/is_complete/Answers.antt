use Rattle.std.proofs.Common.{ℕ, ◌<◌, List, length, slice_get, sym, ap, subst, arith}
use Rattle.cert_paths.specs.declared.chart.Chart.{Chart}
use Rattle.cert_paths.specs.declared.rows.CertRow.{CertRow}
use Rattle.cert_paths.specs.Rows.{HasBytes}
use Rattle.cert_paths.specs.Tables.{IsTableOf}
use Rattle.cert_paths.specs.Tied.{IsCompleteBy}
use Rattle.cert_paths.proofs.Linked.{not_missing, few_here, complete_is}
use Rattle.cert_paths.proofs.completing.is_complete.Goals as goal

pub returns-in_default : goal.returns-in_default
returns-in_default c m has whole =
    absurd (not_missing c.args.tables.now c.requires.tied c.args.leaf.now m has whole
    (subst (λ (rows : List CertRow). (k : ℕ) → k < length rows → ¬ (HasBytes c.args.leaf.now (slice_get rows k))) c.as_slice.ensures.value c.in_default.ensures))

pub has_walk-requires-clause-few : goal.has_walk-requires-clause-few
has_walk-requires-clause-few c =
    let few = few_here c.args.tables.now c.requires.tied in
    let certs = ap length c.as_slice-2.ensures.value in
    let issuers = ap length c.as_slice-3.ensures.value in
    (omega arith, omega arith)

pub returns : goal.returns
returns c m has whole =
    let chart : Chart = record { certs = c.as_slice-2.result; issuers = c.as_slice-3.result; bits = c.as_slice-4.result } in
    complete_is c.args.tables.now c.requires.tied chart c.as_slice-2.ensures.value c.as_slice-3.ensures.value c.in-Some.row c.args.leaf.now
    (subst (λ (rows : List CertRow). let p : Type 0 = (c.in-Some.row < length rows) × HasBytes c.args.leaf.now (slice_get rows c.in-Some.row) in p) c.as_slice.ensures.value c.in-Some.ensures)
    c.in_ok-answer.answer c.in_ok-answer.ensures
    (subst (IsTableOf (IsCompleteBy c.args.tables.now) (length c.args.tables.now.certs.items) (length c.args.tables.now.issuers.items)) (sym c.as_slice-4.ensures.value) c.in_ok-bits.ensures)
    m has whole
