use Rattle.std.proofs.Common.{◌-◌, ◌≤◌}
use Rattle.doc_spans.specs.Texts.{AreLiteral}
use Rattle.doc_spans.proofs.text_items.literal_part_end.Given as goal

-- the bytes before stand for themselves
abbrev pub invariant-by_lanes : goal.invariant-by_lanes
invariant-by_lanes l = (l.at ≤ l.from) × (l.from ≤ l.end) × AreLiteral l.bytes l.at l.from

abbrev pub decreases-by_lanes : goal.decreases-by_lanes
decreases-by_lanes l = l.end - l.from
