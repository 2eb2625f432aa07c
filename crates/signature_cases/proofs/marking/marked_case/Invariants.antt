use Rattle.std.proofs.Common.{◌≡◌, []}
use Rattle.case_steps.specs.Built.{ShowsObjects}
use Rattle.signature_cases.proofs.Marks.{MarksTo, read_to}
use Rattle.signature_cases.proofs.marking.marked_case.Given as goal

abbrev pub invariant-loop-property : goal.invariant-loop-property
invariant-loop-property l = ShowsObjects (read_to l.parts l.property) l.case × (l.case.stamps ≡ []) × MarksTo l.parts l.property l.marks.items
