use Rattle.std.proofs.Common.{refl, codes}
use Rattle.signature_model.specs.Vocabulary.{xades}
use Rattle.signature_parts.proofs.Named.{xades_name, part_in}
use Rattle.signature_parts.proofs.parts.signed_data_properties.Goals as goal

pub returns : goal.returns
returns c =
    part_in c.args.doc _ (xades (codes "SignedDataObjectProperties")) _ _ _ (xades_name _ (codes "SignedDataObjectProperties") refl c.xades.ensures)
    c.signed_properties.ensures c.first_in.ensures.spot c.first_in.ensures.there
