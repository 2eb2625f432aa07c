use Rattle.std.proofs.Common.{◌≡◌, drop, map}
use Rattle.policy_rules.specs.Rules.{kind_of_uri}
use Rattle.policy_rules.specs.View.{kind_view}
use Rattle.policy_rules.proofs.policy.Policy.kind_of_uri.Given as goal

abbrev pub invariant-loop-entry : goal.invariant-loop-entry
invariant-loop-entry l = kind_of_uri (map kind_view (drop l.entry-index l.entry-items)) l.uri ≡ kind_of_uri (map kind_view l.self.kinds.items) l.uri
