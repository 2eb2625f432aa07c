use Rattle.std.proofs.Common.{ℕ, ◌<◌, List, length, slice_get, sym, ap, subst, arith, ℤ, to_z, of_z, to_z-of_z, w64}
use Rattle.cert_paths.specs.declared.chart.Chart.{Chart}
use Rattle.cert_paths.specs.declared.rows.CertRow.{CertRow}
use Rattle.cert_paths.specs.Rows.{HasBytes}
use Rattle.cert_paths.specs.Tables.{IsTableOf}
use Rattle.cert_paths.specs.Tied.{IsLinkedBy}
use Rattle.cert_paths.proofs.Linked.{not_missing, certificates_timed, lists_timed, few_here, accepted_is}
use Rattle.cert_paths.proofs.accepting.is_accepted.Goals as goal

pub returns-in_default : goal.returns-in_default
returns-in_default c m has whole =
    absurd (not_missing c.args.tables.now c.requires.tied c.args.leaf.now m has whole
    (subst (λ (rows : List CertRow). (k : ℕ) → k < length rows → ¬ (HasBytes c.args.leaf.now (slice_get rows k))) c.as_slice.ensures.value c.in_default.ensures))

pub invariant_of-accepting : goal.invariant_of-accepting
invariant_of-accepting c = record {
  certs_timed = certificates_timed c.args.tables.now c.requires.tied c.args.times.now c.requires.times;
  lists_timed = lists_timed c.args.tables.now c.requires.tied c.args.times.now c.requires.times;
}

pub has_walk-requires-clause-few : goal.has_walk-requires-clause-few
has_walk-requires-clause-few c =
    let few = few_here c.args.tables.now c.requires.tied in
    let certs = ap length c.as_slice-2.ensures.value in
    let issuers = ap length c.as_slice-3.ensures.value in
    (omega arith, omega arith)

pub returns : goal.returns
returns c m has whole =
    let chart : Chart = record { certs = c.as_slice-2.result; issuers = c.as_slice-3.result; bits = c.as_slice-4.result } in
    let Of : ℤ → ℤ → Type 0 = λ low at.
    IsTableOf (IsLinkedBy c.args.tables.now c.args.times.now low at) (length c.args.tables.now.certs.items) (length c.args.tables.now.issuers.items) c.as_slice-4.result.now in
    let bits : Of (to_z w64 (of_z w64 c.args.low)) (to_z w64 (of_z w64 c.args.at)) =
    subst (IsTableOf (IsLinkedBy c.args.tables.now c.args.times.now (to_z w64 (of_z w64 c.args.low)) (to_z w64 (of_z w64 c.args.at))) (length c.args.tables.now.certs.items)
    (length c.args.tables.now.issuers.items)) (sym c.as_slice-4.ensures.value) c.in_ok-bits.ensures in
    accepted_is c.args.tables.now c.requires.tied chart c.as_slice-2.ensures.value c.as_slice-3.ensures.value c.in-Some.row c.args.leaf.now
    (subst (λ (rows : List CertRow). let p : Type 0 = (c.in-Some.row < length rows) × HasBytes c.args.leaf.now (slice_get rows c.in-Some.row) in p) c.as_slice.ensures.value c.in-Some.ensures)
    c.in_ok-answer.answer c.in_ok-answer.ensures c.args.times.now c.args.low c.args.at
    (subst (λ (z : ℤ). Of z c.args.at) (to_z-of_z c.ranges.low) (subst (λ (z : ℤ). Of (to_z w64 (of_z w64 c.args.low)) z) (to_z-of_z c.ranges.at) bits))
    m has whole
