use Rattle.std.proofs.Common.{◌+◌, ◌<◌, length, sym, ◌∙◌, ap, arith}
use Rattle.doc_spans.specs.Seen.{document_in}
use Rattle.prepared_documents.specs.Tests.{is_taken}
use Rattle.signature_model.specs.Prepared.{reference_id}
use Rattle.augmenter.proofs.TakenTexts.{free_on, taken_here}
use Rattle.augmenter.proofs.taken.are_references_taken.Goals as goal

pub returns-then-branch : goal.returns-then-branch
returns-then-branch c = λ doc of.
    let n = c.loop-number.number in
    let t = c.loop-number-test.true in
    let e = c.refs-number-end.ensures in
    let within : n < length c.args.draft.now.references = omega (arith, t, e) in
    let told = ap (λ x. is_taken (document_in doc) (reference_id x (n + 1))) (sym c.id.ensures) ∙ sym (c.in_ok-is_reference_taken.ensures doc of) ∙ c.if-branch.true in
    sym (c.loop-number.invariant doc of ∙ taken_here (document_in doc) c.args.draft.now n c.args.draft.now.references within told)

pub loop-number-preserved : goal.loop-number-preserved
loop-number-preserved c = λ doc of.
    let n = c.loop-number.number in
    let t = c.loop-number-test.true in
    let e = c.refs-number-end.ensures in
    let within : n < length c.args.draft.now.references = omega (arith, t, e) in
    let told = ap (λ x. is_taken (document_in doc) (reference_id x (n + 1))) (sym c.id.ensures) ∙ sym (c.in_ok-is_reference_taken.ensures doc of) ∙ c.if-branch.false in
    c.loop-number.invariant doc of ∙ free_on (document_in doc) c.args.draft.now n c.args.draft.now.references within told
