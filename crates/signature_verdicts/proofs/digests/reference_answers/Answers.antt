use Rattle.std.proofs.Common.{◌≡◌, ◌+◌, ℕ, arith, refl, subst}
use Rattle.std.proofs.lemmas.Option.{slice_get_read}
use Rattle.policy_rules.specs.View.{rules}
use Rattle.signature_verdicts.proofs.OnDigests.{IsAnswerOn, answered_more, answers_are}
use Rattle.signature_verdicts.proofs.digests.reference_answers.Goals as goal

pub loop-number-preserved : goal.loop-number-preserved
loop-number-preserved c =
    let row = c.index-rows-number.result in
    answered_more (rules c.args.policy.now) c.args.times.now c.args.rows.now c.loop-number.number c.loop-number.answers.items c.push.new.self.items row
    c.is_accepted_at-answer.result (slice_get_read c.args.rows.now _ c.loop-number.number row refl c.loop-number-test.true c.index-rows-number.is)
    c.in-Ok.ensures.items
    c.is_accepted_at-answer.ensures
    c.loop-number.invariant

pub returns : goal.returns
returns c =
    let many = c.loop-number.invariant.many in
    let most = c.loop-number.auto.number-end in
    let past = c.loop-number-test.false in
    answers_are (rules c.args.policy.now) c.args.times.now 0 c.args.rows.now c.loop-number.answers.items (omega (arith, many, most, past))
    (λ k row answer there has.
    let here : k ≡ 0 + k = omega arith in
    subst (λ (n : ℕ). IsAnswerOn (rules c.args.policy.now) c.args.times.now n row answer) here (c.loop-number.invariant.each k row answer there has))
