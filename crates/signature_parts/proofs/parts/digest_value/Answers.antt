use Rattle.std.proofs.Common.{refl, codes}
use Rattle.signature_model.specs.Vocabulary.{ds}
use Rattle.signature_elements.specs.Standing.{spot_or_none}
use Rattle.signature_parts.proofs.Named.{ds_name, part_by}
use Rattle.signature_parts.proofs.parts.digest_value.Goals as goal

pub returns : goal.returns
returns c =
    part_by c.args.doc _ (ds (codes "DigestValue")) (spot_or_none c.args.doc c.args.holder) _ (ds_name _ (codes "DigestValue") refl c.ds.ensures)
    c.first_in.ensures.spot c.first_in.ensures.there
