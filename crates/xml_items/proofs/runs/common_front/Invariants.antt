use Rattle.std.proofs.Common.{◌-◌, ◌≤◌, length}
use Rattle.httparse.specs.Pieces.{AllPassBetween}
use Rattle.xml_items.specs.Runs.{is_common}
use Rattle.xml_items.proofs.runs.common_front.Given as goal

abbrev pub invariant-by_lanes : goal.invariant-by_lanes
invariant-by_lanes l = (l.at ≤ length l.bytes) × AllPassBetween is_common l.bytes 0 l.at

abbrev pub decreases-by_lanes : goal.decreases-by_lanes
decreases-by_lanes l = length l.bytes - l.at
