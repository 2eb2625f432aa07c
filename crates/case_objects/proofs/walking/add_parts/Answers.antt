use Rattle.std.proofs.Common.{◌+◌, List, drop, map, subst}
use Rattle.qualifying_props.specs.Shown.{parts_at}
use Rattle.signature_objects.specs.Objects.{Object}
use Rattle.case_objects.specs.Walks.{object_in}
use Rattle.case_objects.proofs.Added.{Adds, adds_on, left_more}
use Rattle.case_objects.proofs.walking.add_parts.Goals as goal

pub loop-number-preserved : goal.loop-number-preserved
loop-number-preserved c =
    let all = parts_at c.args.parts.now c.args.property in
    let number = c.loop-number.number in
    let part = c.part_in.result.now in
    adds_on (object_in part) (map object_in (drop (number + 1) all)) (map object_in all) c.args.case.now c.loop-number.case c.add_material.new.case
    c.in_ok-add_material.ensures.objects c.in_ok-add_material.ensures.stamps
    (subst (λ (left : List Object). Adds left (map object_in all) c.args.case.now c.loop-number.case) (left_more object_in all number part c.part_in.ensures) c.loop-number.invariant)
