use Rattle.std.proofs.Common.{◌-◌, ◌≤◌, length}
use Rattle.xml_items.specs.Runs.{is_unescaped}
use Rattle.httparse.specs.Pieces.{AllPassBetween}
use Rattle.canon_texts.proofs.escapes.unescaped_front.Given as goal

abbrev pub invariant-by_lanes : goal.invariant-by_lanes
invariant-by_lanes l = (l.at ≤ length l.bytes) × AllPassBetween is_unescaped l.bytes 0 l.at

abbrev pub decreases-by_lanes : goal.decreases-by_lanes
decreases-by_lanes l = length l.bytes - l.at
