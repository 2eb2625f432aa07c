use Rattle.std.proofs.Common.{refl, codes}
use Rattle.signature_model.specs.Vocabulary.{ds}
use Rattle.signature_elements.specs.Standing.{spot_of}
use Rattle.signature_parts.proofs.Named.{ds_name, all_called}
use Rattle.signature_parts.proofs.object_elements.objects.Goals as goal

pub returns-clause-spots : goal.returns-clause-spots
returns-clause-spots c =
    all_called c.args.doc _ (ds (codes "Object")) (spot_of c.args.doc c.args.signature) _ (ds_name _ (codes "Object") refl c.ds.ensures) c.called.ensures.spots
