use Rattle.policy_rules.specs.Rules.{IsDigestRule}
use Rattle.policy_rules.specs.View.{digest_view}
use Rattle.policy_rules.proofs.Found.{IsLeft}
use Rattle.policy_rules.proofs.policy.Policy.digest_accepted.Given as goal

abbrev pub invariant-loop-entry : goal.invariant-loop-entry
invariant-loop-entry l = IsLeft (IsDigestRule l.fn.kind l.fn.at) digest_view l.entry-index l.entry-items l.self.digests.items
