use Rattle.std.proofs.Common.{◌-◌, ◌≤◌, length}
use Rattle.httparse.specs.Pieces.{AllPassBetween}
use Rattle.xml_items.specs.Runs.{is_common}
use Rattle.xml_items.proofs.runs.are_common.Given as goal

abbrev pub invariant-rest : goal.invariant-rest
invariant-rest l = (l.at ≤ length l.bytes) × AllPassBetween is_common l.bytes 0 l.at

abbrev pub decreases-rest : goal.decreases-rest
decreases-rest l = length l.bytes - l.at
