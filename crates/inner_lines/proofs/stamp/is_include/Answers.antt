use Rattle.std.proofs.Common.{refl, codes}
use Rattle.signature_elements.specs.Standing.{spot_of}
use Rattle.signature_parts.proofs.FromNone.{called_xades}
use Rattle.inner_lines.proofs.stamp.is_include.Goals as goal

pub returns : goal.returns
returns c = called_xades (codes "Include") _ (spot_of c.args.doc c.args.child) _ refl c.xades.ensures c.is_called.ensures
