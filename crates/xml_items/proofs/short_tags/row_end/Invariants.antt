use Rattle.std.proofs.Common.{◌-◌, ◌≤◌, take, drop, length}
use Rattle.xml_items.specs.ShortNames.{IsShortRow}
use Rattle.xml_items.proofs.short_tags.row_end.Given as goal

-- so many pairs were passed
abbrev pub invariant-pairs : goal.invariant-pairs
invariant-pairs l = (l.start ≤ l.at) × (l.at ≤ length l.bytes) × (l.count ≤ 256) × IsShortRow (take (l.at - l.start) (drop l.start l.bytes)) l.count

abbrev pub decreases-pairs : goal.decreases-pairs
decreases-pairs l = 256 - l.count
