use Rattle.std.proofs.Common.{◌≡◌, drop, map, string_bytes}
use Rattle.toml.specs.View.{items_view}
use Rattle.policy_rules.specs.Fields.{uri_in}
use Rattle.policy_rules.specs.Fields.{each}
use Rattle.policy_rules.proofs.Each.{with_front}
use Rattle.policy_rules.proofs.lists.uris.Given as goal

abbrev pub invariant-loop-value : goal.invariant-loop-value
invariant-loop-value l = with_front (map (string_bytes) l.uris.items) (each uri_in (items_view (drop l.value-index l.listed.items))) ≡ each uri_in (items_view l.listed.items)
