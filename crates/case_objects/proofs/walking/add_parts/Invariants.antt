use Rattle.std.proofs.Common.{drop, map}
use Rattle.qualifying_props.specs.Shown.{parts_at}
use Rattle.case_objects.specs.Walks.{object_in}
use Rattle.case_objects.proofs.Added.{Adds}
use Rattle.case_objects.proofs.walking.add_parts.Given as goal

abbrev pub invariant-loop-number : goal.invariant-loop-number
invariant-loop-number l = Adds (map object_in (drop l.number (parts_at l.parts l.property))) (map object_in (parts_at l.parts l.property)) l.fn.case l.case
