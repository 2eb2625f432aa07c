use Rattle.std.proofs.Common.{◌≡◌, ◌-◌, ◌≤◌, ◌<◌, true, take, drop, length}
use Rattle.xml_items.specs.ShortNames.{is_short_part}
use Rattle.xml_items.proofs.short_tags.part_end.Given as goal

-- the bytes so far are a part
abbrev pub invariant-part : goal.invariant-part
invariant-part l = (l.start < l.end) × (l.end ≤ length l.bytes) × (is_short_part (take (l.end - l.start) (drop l.start l.bytes)) ≡ true)

abbrev pub decreases-part : goal.decreases-part
decreases-part l = length l.bytes - l.end
