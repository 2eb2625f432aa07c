use Rattle.std.proofs.Common.{◌<◌, ℕ, length, sym, subst}
use Rattle.signature_reports.proofs.Stamps.{tokens_more}
use Rattle.signature_reports.proofs.tokens.token_facts.Goals as goal

pub loop-number-preserved : goal.loop-number-preserved
loop-number-preserved c =
    let inside : c.loop-number.number < length c.args.answers.now =
    subst (λ (n : ℕ). c.loop-number.number < n) (sym c.requires.answers) c.loop-number-test.true in
    tokens_more c.args.times.now c.args.words.now c.args.answers.now c.loop-number.number _ _ c.loop-number.facts.items c.push.new.self.items c.token_fact-fact.result _
    c.loop-number-test.true inside c.in-Ok.ensures.items c.token_fact-fact.ensures c.loop-number.invariant
