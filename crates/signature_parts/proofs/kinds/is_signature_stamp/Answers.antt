use Rattle.std.proofs.Common.{refl, codes}
use Rattle.signature_model.specs.Vocabulary.{xades}
use Rattle.signature_elements.specs.Standing.{spot_of}
use Rattle.signature_parts.proofs.Named.{xades_name, called_as}
use Rattle.signature_parts.proofs.kinds.is_signature_stamp.Goals as goal

pub returns : goal.returns
returns c =
    called_as _ (xades (codes "SignatureTimeStamp")) (spot_of c.args.doc c.args.property) _ (xades_name _ (codes "SignatureTimeStamp") refl c.xades.ensures) c.is_called.ensures
