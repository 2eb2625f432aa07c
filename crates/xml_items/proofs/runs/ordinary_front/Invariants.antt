use Rattle.std.proofs.Common.{length, ◌-◌, ◌≡◌, ◌≤◌, ◌+◌, drop}
use Rattle.document_model.specs.Characters.{span}
use Rattle.xml_items.specs.Runs.{is_ordinary}
use Rattle.xml_items.proofs.runs.ordinary_front.Given as goal

-- the whole run is what was passed and the run from here on
abbrev pub invariant-by_lanes : goal.invariant-by_lanes
invariant-by_lanes l = (l.at ≤ l.end) × (l.end ≤ length l.bytes) × (l.at + length (span is_ordinary (drop l.at l.bytes)).0 ≡ l.end + length (span is_ordinary (drop l.end l.bytes)).0)

abbrev pub decreases-by_lanes : goal.decreases-by_lanes
decreases-by_lanes l = length l.bytes - l.end
