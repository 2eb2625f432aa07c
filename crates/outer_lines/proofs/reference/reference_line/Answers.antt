use Rattle.signature_parts.proofs.Adding.{adds_first}
use Rattle.outer_lines.proofs.reference.reference_line.Goals as goal

pub returns : goal.returns
returns c = adds_first c.args.doc _ _ _ c.none-places.ensures c.add_references.ensures
