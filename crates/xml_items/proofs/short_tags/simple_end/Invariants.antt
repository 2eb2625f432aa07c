use Rattle.std.proofs.Common.{◌≡◌, ◌-◌, ◌≤◌, true, take, drop, length}
use Rattle.std.specs.List.{list_all}
use Rattle.xml_items.specs.ShortNames.{is_simple}
use Rattle.xml_items.proofs.short_tags.simple_end.Given as goal

-- the bytes so far pass
abbrev pub invariant-run : goal.invariant-run
invariant-run l = (l.start ≤ l.end) × (l.end ≤ length l.bytes) × (list_all (is_simple l.quote) (take (l.end - l.start) (drop l.start l.bytes)) ≡ true)

abbrev pub decreases-run : goal.decreases-run
decreases-run l = length l.bytes - l.end
