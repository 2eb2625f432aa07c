use Rattle.std.proofs.Common.{length, Ok, Err, sym, ◌∙◌, ap, subst, arith, of_z, to_z, to_z-of_z, w64}
use Rattle.std.proofs.lemmas.List.{take_all}
use Rattle.document_model.specs.Insertion.{Extends}
use Rattle.policy_rules.specs.View.{rules}
use Rattle.reference_chains.specs.HandedIn.{handed_in}
use Rattle.augmenter.specs.Attaching.{IsAttachment, with_all}
use Rattle.augmenter.proofs.Files.{files_hold}
use Rattle.augmenter.proofs.Steps.{AreSteps, attached_on, extends_all, front_passed, refused_answer}
use Rattle.augmenter.proofs.attaching.attach.Goals as goal

pub returns-in-Err-attach_one-clause-answer : goal.returns-in-Err-attach_one-clause-answer
returns-in-Err-attach_one-clause-answer c =
    let all = rules c.args.policy.now in
    let handed = handed_in c.args.externals.now in
    subst (λ m. IsAttachment all handed m c.args.items.now c.args.bytes.now (Err c.refuse_item.result)) (to_z-of_z c.ranges.at)
    (subst (λ refusal. IsAttachment all handed (to_z w64 (of_z w64 c.args.at)) c.args.items.now c.args.bytes.now (Err refusal)) (sym c.refuse_item.ensures)
    (refused_answer all handed (to_z w64 (of_z w64 c.args.at)) c.args.items.now c.args.bytes.now c.loop-number.live.bytes c.loop-number.number c.index-items-number.result c.index-items-number.result
    c.in-Err-attach_one.objection c.loop-number-test.true c.index-items-number.is c.in-Err-attach_one.ensures.err c.loop-number.invariant))

pub loop-number-preserved : goal.loop-number-preserved
loop-number-preserved c =
    attached_on (rules c.args.policy.now) (handed_in c.args.externals.now) (to_z w64 (of_z w64 c.args.at)) c.args.items.now c.args.bytes.now c.loop-number.live.bytes c.attach_one.new.live.bytes c.loop-number.number
    c.index-items-number.result c.index-items-number.result c.loop-number-test.true c.index-items-number.is c.in-Ok-attach_one.ensures.code c.in-Ok-attach_one.ensures.bytes
    c.in-Ok-attach_one.ensures.small.0 c.in-Ok-attach_one.ensures.small.1 c.in-Ok-attach_one.ensures.octets c.loop-number.invariant

-- all items
pub returns-clause-answer : goal.returns-clause-answer
returns-clause-answer c =
    let items = c.args.items.now in
    let bytes = c.args.bytes.now in
    let test = c.loop-number-test.false in
    let whole = take_all c.loop-number.number items (omega (arith, test)) in
    let steps = subst (λ all. AreSteps (rules c.args.policy.now) (handed_in c.args.externals.now) (to_z w64 (of_z w64 c.args.at)) all bytes) (whole ∙ sym (take_all (length items) items (omega arith))) c.loop-number.invariant.steps in
    subst (λ m. IsAttachment (rules c.args.policy.now) (handed_in c.args.externals.now) m items bytes (Ok c.into_bytes.result)) (to_z-of_z c.ranges.at) (
      c.loop-number.invariant.right,
      front_passed (rules c.args.policy.now) (handed_in c.args.externals.now) (to_z w64 (of_z w64 c.args.at)) items bytes (length items) (omega arith) steps,
      c.into_bytes.ensures ∙ c.loop-number.invariant.same ∙ ap (λ all. with_all all bytes) whole,
    )

pub returns-clause-extends : goal.returns-clause-extends
returns-clause-extends c =
    let items = c.args.items.now in
    let bytes = c.args.bytes.now in
    let test = c.loop-number-test.false in
    let whole = take_all c.loop-number.number items (omega (arith, test)) in
    subst (Extends bytes) (sym (c.into_bytes.ensures ∙ c.loop-number.invariant.same ∙ ap (λ all. with_all all bytes) whole)) (extends_all items bytes)

pub returns-clause-hold : goal.returns-clause-hold
returns-clause-hold c =
    let items = c.args.items.now in
    let bytes = c.args.bytes.now in
    let test = c.loop-number-test.false in
    let whole = take_all c.loop-number.number items (omega (arith, test)) in
    files_hold (rules c.args.policy.now) (handed_in c.args.externals.now) (to_z w64 (of_z w64 c.args.at)) items bytes c.loop-number.invariant.right
    (subst (λ all. AreSteps (rules c.args.policy.now) (handed_in c.args.externals.now) (to_z w64 (of_z w64 c.args.at)) all bytes) whole c.loop-number.invariant.steps)
