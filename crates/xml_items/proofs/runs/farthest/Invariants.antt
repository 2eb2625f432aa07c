use Rattle.std.proofs.Common.{◌-◌, ◌≤◌, ◌<◌, length}
use Rattle.xml_items.proofs.runs.farthest.Given as goal

abbrev pub invariant-within : goal.invariant-within
invariant-within l = (l.at ≤ l.most) × (l.most < length l.bytes)

abbrev pub decreases-within : goal.decreases-within
decreases-within l = l.most - l.at
