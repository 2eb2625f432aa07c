use Rattle.std.proofs.Common.{refl, codes}
use Rattle.signature_model.specs.Vocabulary.{ds}
use Rattle.signature_parts.proofs.Named.{ds_name, named_part}
use Rattle.signature_parts.proofs.part_lists.key_data.Goals as goal

pub returns-clause-spots : goal.returns-clause-spots
returns-clause-spots c =
    named_part c.args.doc _ (ds (codes "X509Data")) _ _ _ (ds_name _ (codes "X509Data") refl c.ds.ensures) c.key_info.ensures c.of.ensures.spots
