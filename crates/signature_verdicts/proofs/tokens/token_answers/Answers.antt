use Rattle.std.proofs.Common.{◌≡◌, ℕ, List, arith, sym, subst}
use Rattle.std.specs.Prelude.{length}
use Rattle.acceptance.specs.Certificates.{Part}
use Rattle.policy_rules.specs.View.{rules}
use Rattle.signature_verdicts.proofs.OnTokens.{Answered, answered_at, answers_are}
use Rattle.signature_verdicts.proofs.tokens.token_answers.Goals as goal

pub loop-number-preserved : goal.loop-number-preserved
loop-number-preserved c =
    answered_at c.args.case.now.pool (rules c.args.policy.now) c.args.times.now c.args.case.now.stamps c.args.words.now c.loop-number.number c.loop-number.answers.items c.push.new.self.items
    _ c.in_ok-accepted.accepted c.loop-number-test.true c.in-Ok.ensures.items c.in_ok-accepted.ensures c.loop-number.invariant

pub returns : goal.returns
returns c evidence case same shows words =
    let most = c.loop-number.auto.number-end in
    let past = c.loop-number-test.false in
    let all : length c.args.words.now ≡ c.loop-number.number = omega (arith, most, past) in
    answers_are (rules c.args.policy.now) evidence case c.args.times.now evidence.stamps c.args.case.now.stamps c.args.words.now c.loop-number.answers.items shows.stamps words
    (subst (λ (pool : List Part). Answered pool (rules c.args.policy.now) c.args.times.now c.args.case.now.stamps c.args.words.now (length c.args.words.now) c.loop-number.answers.items) (sym same)
    (subst (λ (n : ℕ). Answered c.args.case.now.pool (rules c.args.policy.now) c.args.times.now c.args.case.now.stamps c.args.words.now n c.loop-number.answers.items) (sym all) c.loop-number.invariant))
