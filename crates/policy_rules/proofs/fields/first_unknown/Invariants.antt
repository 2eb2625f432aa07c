use Rattle.std.proofs.Common.{◌≡◌}
use Rattle.toml.specs.View.{members_view}
use Rattle.policy_rules.specs.Fields.{first_unknown}
use Rattle.policy_rules.proofs.fields.first_unknown.Given as goal

abbrev pub invariant-keys : goal.invariant-keys
invariant-keys l =
    (goal.iterator-keys).can_next l.key-iterator × (goal.iterator-keys).is_finite l.key-iterator
    × (first_unknown l.place (members_view l.table.entries) ≡ first_unknown l.place (members_view l.key-iterator))
