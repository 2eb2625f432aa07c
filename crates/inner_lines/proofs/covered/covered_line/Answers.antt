use Rattle.signature_parts.proofs.AnyOrder.{alike_as}
use Rattle.std.proofs.Common.{refl}
use Rattle.signature_parts.proofs.FromNone.{first_of_all}
use Rattle.inner_lines.proofs.covered.covered_line.Goals as goal

pub returns : goal.returns
returns c = first_of_all c.args.doc _ _ _ _ c.none-place.ensures (alike_as _ _ refl) c.add_faults.ensures
