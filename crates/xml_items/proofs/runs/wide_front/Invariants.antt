use Rattle.std.proofs.Common.{◌-◌, ◌≤◌}
use Rattle.xml_items.proofs.runs.wide_front.Given as goal

abbrev pub invariant-by_lanes : goal.invariant-by_lanes
invariant-by_lanes l = (l.at ≤ l.start) × (l.start ≤ l.most)

abbrev pub decreases-by_lanes : goal.decreases-by_lanes
decreases-by_lanes l = l.most - l.start
