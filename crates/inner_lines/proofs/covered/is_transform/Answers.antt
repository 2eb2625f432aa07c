use Rattle.std.proofs.Common.{refl, codes}
use Rattle.signature_elements.specs.Standing.{spot_of}
use Rattle.signature_parts.proofs.FromNone.{called_ds}
use Rattle.inner_lines.proofs.covered.is_transform.Goals as goal

pub returns : goal.returns
returns c = called_ds (codes "Transform") _ (spot_of c.args.doc c.args.transform) _ refl c.ds.ensures c.is_called.ensures
