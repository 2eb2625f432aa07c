use Rattle.std.proofs.Common.{◌≡◌, ℕ, ◌+◌, ◌-◌, ◌<◌, subst, ◌∙◌, sym, ap, cond, None, Some, refl, drop, arith}
use Rattle.std.proofs.lemmas.Result.{err_from_is_err_and}
use Rattle.document_model.specs.Documents.{End}
use Rattle.xml_items.specs.Scanned.{piece_in}
use Rattle.doc_spans.specs.Building.{state_of}
use Rattle.doc_spans.specs.Kept.{standing_in}
use Rattle.doc_spans.specs.Standing.{Standing}
use Rattle.doc_spans.proofs.ReadSoFar.{read_first, read_next, read_fault, fault_found, few_after, CountedTo, counted_next, read_tree, read_whole, read_all, ReadTo}
use Rattle.doc_spans.proofs.RunsOfText.{run_next}
use Rattle.doc_spans.proofs.reading.read_rows.Goals.{then-run-gt0+in_ok-add, else-run-gt0+in_ok-item+in_ok-take_item}
use Rattle.doc_spans.proofs.reading.read_rows.Goals as goal

pub items-init : goal.items-init
items-init g c =
    (read_first c.args.bytes.now (state_of c.new-builder.result) (standing_in c.new-standing.result) c.new-builder.ensures c.new-standing.ensures, (λ e. refl, λ h. absurd (omega (arith, h))))

pub returns-in_err-item-clause-fault : goal.returns-in_err-item-clause-fault
returns-in_err-item-clause-fault g c =
    let p = err_from_is_err_and c.from_residual-in_err-item.result c.from_residual-in_err-item.ensures.1 in
    let m = c.in_err-item.ensures.fault in
    rw (p.1, p.2)
    (fault_found c.in_err-item.field-0.0 c.args.bytes.now _
    (read_fault c.args.bytes.now c.items.at (state_of c.items.builder) (standing_in c.items.standing) c.items-test.true c.items.invariant.0 m.0) m.1)

pub take_item-requires-clause-few : goal.take_item-requires-clause-few
take_item-requires-clause-few g c =
    few_after (standing_in c.items.standing) (drop c.items.at c.args.bytes.now) (piece_in c.args.bytes.now c.items.at c.in_ok-item.item) c.in_ok-item.ensures.legal

pub items-preserved : goal.items-preserved
items-preserved g c =
    let bytes = c.args.bytes.now in
    let at = c.items.at in
    let end = c.if-run-gt0.end in
    let small = c.requires in
    let r = c.items.invariant.0 in
    let Counted : ℕ → Type 0 = λ k. CountedTo c.args.steps.now k c.count_bytes.new.steps in
    let P : ℕ → Type 0 = λ k. ReadTo bytes k (state_of c.if-run-gt0.builder) (standing_in c.if-run-gt0.standing) in
    let counted : at < end → Counted end = λ h.
    let m : at + (end - at) ≡ end = omega (arith, h) in
    subst Counted m (counted_next c.args.steps.now at (end - at) c.items.steps c.count_bytes.new.steps c.items.invariant.1 (omega (arith, h)) c.count_bytes.ensures) in
    elim c.if-run-gt0.branch [
      | then-run-gt0+in_ok-add w ↦
          let run = c.run_there-run.result in
          let Q : Standing → Type 0 = λ st. ReadTo bytes (at + run) (state_of c.if-run-gt0.builder) st in
          let read = run_next bytes at run (state_of c.items.builder) (state_of c.if-run-gt0.builder) (standing_in c.items.standing) small c.run_there-run.ensures.bound w.if-run-gt0.true (c.run_there-run.ensures.going w.if-run-gt0.true) c.run_there-run.ensures.utf8 c.run_there-run.ensures.text r
          (ap state_of w.builder-is ∙ w.in_ok-add.ensures) in
          (subst P (sym w.end-is) (subst Q (sym (ap standing_in w.standing-is)) read), counted (omega (arith, w.end-is, w.if-run-gt0.true)))
      | else-run-gt0+in_ok-item+in_ok-take_item w ↦
          let piece = (piece_in bytes at w.in_ok-item.item).0 in
          let read = read_next bytes at w.in_ok-item.item.end (state_of c.items.builder) (state_of c.if-run-gt0.builder) (standing_in c.items.standing) (standing_in c.if-run-gt0.standing) piece small
          w.in_ok-item.ensures.within.1 r w.in_ok-item.ensures.legal (ap state_of w.builder-is ∙ w.in_ok-take_item.ensures.rows) (ap standing_in w.standing-is ∙ w.in_ok-take_item.ensures.standing) in
          (subst P (sym w.end-is) read, counted (omega (arith, w.end-is, w.in_ok-item.ensures.within.0)))
    ]

pub returns-then-is_complete-clause-tree : goal.returns-then-is_complete-clause-tree
returns-then-is_complete-clause-tree g c =
    let r = c.items.invariant.0 in (
      read_tree c.args.bytes.now c.items.at (state_of c.items.builder) (standing_in c.items.standing) r,
      read_whole c.args.bytes.now c.items.at (state_of c.items.builder) (standing_in c.items.standing) c.items-test.false r (sym c.is_complete.ensures ∙ c.if-is_complete.true),
    )

pub returns-else-is_complete-clause-fault : goal.returns-else-is_complete-clause-fault
returns-else-is_complete-clause-fault g c =
    read_all c.args.bytes.now c.items.at (state_of c.items.builder) (standing_in c.items.standing) c.items-test.false c.items.invariant.0
    ∙ ap (λ b. cond b None (Some End)) (sym c.is_complete.ensures ∙ c.if-is_complete.false)
