use Rattle.std.proofs.Common.{◌≡◌, drop, map, string_bytes}
use Rattle.policy_rules.specs.Rules.{is_among}
use Rattle.policy_rules.proofs.accessors.names.Given as goal

abbrev pub invariant-loop-listed : goal.invariant-loop-listed
invariant-loop-listed l = is_among l.uri (map string_bytes (drop l.listed-index l.listed-items)) ≡ is_among l.uri (map string_bytes l.entry.uris.items)
