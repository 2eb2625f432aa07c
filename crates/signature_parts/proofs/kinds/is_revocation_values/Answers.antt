use Rattle.std.proofs.Common.{refl, codes}
use Rattle.signature_model.specs.Vocabulary.{xades}
use Rattle.signature_elements.specs.Standing.{spot_of}
use Rattle.signature_parts.proofs.Named.{xades_name, called_as}
use Rattle.signature_parts.proofs.kinds.is_revocation_values.Goals as goal

pub returns : goal.returns
returns c =
    called_as _ (xades (codes "RevocationValues")) (spot_of c.args.doc c.args.element) _ (xades_name _ (codes "RevocationValues") refl c.xades.ensures) c.is_called.ensures
