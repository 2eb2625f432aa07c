use Rattle.std.proofs.Common.{◌≡◌, drop, map}
use Rattle.toml.specs.View.{items_view}
use Rattle.toml.specs.Data.{as_str}
use Rattle.policy_rules.specs.Fields.{each}
use Rattle.policy_rules.proofs.Each.{with_front}
use Rattle.policy_rules.proofs.lists.texts.Given as goal

abbrev pub invariant-loop-value : goal.invariant-loop-value
invariant-loop-value l = with_front (map (λ s. s.now) l.texts.items) (each as_str (items_view (drop l.value-index l.listed.items))) ≡ each as_str (items_view l.listed.items)
