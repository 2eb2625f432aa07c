use Rattle.std.proofs.Common.{◌≤◌}
use Rattle.xml_items.proofs.runs.wide_end.Given as goal

abbrev pub invariant-loop-end : goal.invariant-loop-end
invariant-loop-end l = l.at ≤ l.end
