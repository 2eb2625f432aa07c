use Rattle.policy_rules.specs.View.{rules}
use Rattle.signature_verdicts.proofs.OnDigests.{Answered}
use Rattle.signature_verdicts.proofs.digests.reference_answers.Given as goal

abbrev pub invariant-loop-number : goal.invariant-loop-number
invariant-loop-number l = Answered (rules l.policy) l.times l.rows l.number l.answers.items
