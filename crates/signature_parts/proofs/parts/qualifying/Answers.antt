use Rattle.std.proofs.Common.{refl, codes}
use Rattle.signature_model.specs.Vocabulary.{xades}
use Rattle.signature_parts.proofs.Named.{xades_name, part_in}
use Rattle.signature_parts.proofs.parts.qualifying.Goals as goal

pub returns : goal.returns
returns c =
    part_in c.args.doc _ (xades (codes "QualifyingProperties")) _ _ _ (xades_name _ (codes "QualifyingProperties") refl c.xades.ensures)
    c.first_qualifying_object.ensures c.first_in.ensures.spot c.first_in.ensures.there
