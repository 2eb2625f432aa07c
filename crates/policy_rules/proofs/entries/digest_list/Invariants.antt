use Rattle.std.proofs.Common.{◌≡◌, drop, map}
use Rattle.toml.specs.View.{items_view}
use Rattle.policy_rules.specs.Fields.{digest_rule_in}
use Rattle.policy_rules.specs.View.{digest_view}
use Rattle.policy_rules.specs.Fields.{each}
use Rattle.policy_rules.proofs.Each.{with_front}
use Rattle.policy_rules.proofs.entries.digest_list.Given as goal

abbrev pub invariant-loop-value : goal.invariant-loop-value
invariant-loop-value l = with_front (map (digest_view) l.entries.items) (each digest_rule_in (items_view (drop l.value-index l.listed.items))) ≡ each digest_rule_in (items_view l.listed.items)
