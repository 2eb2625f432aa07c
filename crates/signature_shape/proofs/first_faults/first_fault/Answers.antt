use Rattle.std.proofs.Common.{ap, ◌∙◌}
use Rattle.signature_elements.specs.Standing.{spot_of}
use Rattle.signature_shape.specs.Faults.{fault_in}
use Rattle.signature_shape.proofs.LineFaults.{tells_all}
use Rattle.signature_shape.proofs.first_faults.first_fault.Goals as goal

pub returns-clause-fault : goal.returns-clause-fault
returns-clause-fault c =
    ap (fault_in c.args.doc) c.first.ensures
    ∙ tells_all c.args.doc (spot_of c.args.doc c.args.signature) _ _ _ c.none-faults.ensures c.add_outer_lines.ensures c.in_ok-add_inner_lines.ensures
