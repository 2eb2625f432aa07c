use Rattle.policy_rules.specs.Rules.{IsKindRule}
use Rattle.policy_rules.specs.View.{kind_view}
use Rattle.policy_rules.proofs.Found.{IsLeft}
use Rattle.policy_rules.proofs.policy.Policy.kind_accepted.Given as goal

abbrev pub invariant-loop-entry : goal.invariant-loop-entry
invariant-loop-entry l = IsLeft (IsKindRule l.fn.kind l.fn.at) kind_view l.entry-index l.entry-items l.self.kinds.items
