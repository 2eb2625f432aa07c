use Rattle.std.proofs.Common.{refl, codes}
use Rattle.signature_model.specs.Vocabulary.{ds}
use Rattle.signature_elements.specs.Standing.{spot_of}
use Rattle.signature_parts.proofs.Named.{ds_name, part_called}
use Rattle.signature_parts.proofs.parts.stamp_method.Goals as goal

pub returns : goal.returns
returns c =
    part_called c.args.doc _ (ds (codes "CanonicalizationMethod")) (spot_of c.args.doc c.args.property) _ (ds_name _ (codes "CanonicalizationMethod") refl c.ds.ensures)
    c.first_called.ensures.spot c.first_called.ensures.there
