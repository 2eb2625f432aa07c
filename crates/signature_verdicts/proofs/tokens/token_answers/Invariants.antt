use Rattle.policy_rules.specs.View.{rules}
use Rattle.signature_verdicts.proofs.OnTokens.{Answered}
use Rattle.signature_verdicts.proofs.tokens.token_answers.Given as goal

abbrev pub invariant-loop-number : goal.invariant-loop-number
invariant-loop-number l = Answered l.case.pool (rules l.policy) l.times l.case.stamps l.words l.number l.answers.items
