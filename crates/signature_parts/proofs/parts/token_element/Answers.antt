use Rattle.std.proofs.Common.{refl, codes}
use Rattle.signature_model.specs.Vocabulary.{xades}
use Rattle.signature_elements.specs.Standing.{spot_of}
use Rattle.signature_parts.proofs.Named.{xades_name, part_called}
use Rattle.signature_parts.proofs.parts.token_element.Goals as goal

pub returns : goal.returns
returns c =
    part_called c.args.doc _ (xades (codes "EncapsulatedTimeStamp")) (spot_of c.args.doc c.args.property) _ (xades_name _ (codes "EncapsulatedTimeStamp") refl c.xades.ensures)
    c.first_called.ensures.spot c.first_called.ensures.there
