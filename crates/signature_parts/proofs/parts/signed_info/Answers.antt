use Rattle.std.proofs.Common.{refl, codes}
use Rattle.signature_model.specs.Vocabulary.{ds}
use Rattle.signature_elements.specs.Standing.{spot_of}
use Rattle.signature_parts.proofs.Named.{ds_name, part_called}
use Rattle.signature_parts.proofs.parts.signed_info.Goals as goal

pub returns : goal.returns
returns c =
    part_called c.args.doc _ (ds (codes "SignedInfo")) (spot_of c.args.doc c.args.signature) _ (ds_name _ (codes "SignedInfo") refl c.ds.ensures)
    c.first_called.ensures.spot c.first_called.ensures.there
