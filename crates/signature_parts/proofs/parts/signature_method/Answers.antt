use Rattle.std.proofs.Common.{refl, codes}
use Rattle.signature_model.specs.Vocabulary.{ds}
use Rattle.signature_parts.proofs.Named.{ds_name, part_in}
use Rattle.signature_parts.proofs.parts.signature_method.Goals as goal

pub returns : goal.returns
returns c =
    part_in c.args.doc _ (ds (codes "SignatureMethod")) _ _ _ (ds_name _ (codes "SignatureMethod") refl c.ds.ensures)
    c.signed_info.ensures c.first_in.ensures.spot c.first_in.ensures.there
