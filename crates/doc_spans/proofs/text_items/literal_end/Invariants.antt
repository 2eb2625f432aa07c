use Rattle.std.proofs.Common.{◌≤◌}
use Rattle.doc_spans.specs.Texts.{AreLiteral}
use Rattle.doc_spans.proofs.text_items.literal_end.Given as goal

-- the bytes before stand for themselves
abbrev pub invariant-loop-behind : goal.invariant-loop-behind
invariant-loop-behind l = (l.at ≤ l.behind) × AreLiteral l.bytes l.at l.behind
