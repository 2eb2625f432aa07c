use Rattle.std.proofs.Common.{sym, ◌∙◌}
use Rattle.qualifying_props.specs.Shown.{parts_at}
use Rattle.signature_objects.specs.Met.{with_bytes}
use Rattle.signature_objects.proofs.Gathered.{one_more}
use Rattle.signature_objects.proofs.counting.meet_material.Goals as goal

pub loop-number-preserved : goal.loop-number-preserved
loop-number-preserved c = λ all met.
    let so_far = c.loop-number.invariant all met in (
      with_bytes so_far.0 c.part_in.result.now,
      c.in_ok-meet.ensures so_far.0 so_far.1,
      sym (one_more so_far.0 (parts_at c.args.parts.now c.args.property) c.loop-number.number c.part_in.result.now c.part_in.ensures) ∙ so_far.2,
    )
