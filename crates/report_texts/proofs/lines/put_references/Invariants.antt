use Rattle.std.proofs.Common.{◌≡◌, ◌+◌, ◌++◌, drop}
use Rattle.report_texts.specs.Texts.{each_from, reference_line}
use Rattle.report_texts.proofs.lines.put_references.Given as goal

-- with those that are left, it is the whole
abbrev pub invariant-loop-number : goal.invariant-loop-number
invariant-loop-number l = l.out ++ each_from reference_line (l.number + 1) (drop l.number l.facts) ≡ l.initial.out ++ each_from reference_line 1 l.facts
