use Rattle.std.proofs.Common.{refl, codes}
use Rattle.signature_model.specs.Vocabulary.{xadesv141}
use Rattle.signature_elements.specs.Standing.{spot_of}
use Rattle.signature_parts.proofs.Named.{xadesv141_name, called_as}
use Rattle.signature_parts.proofs.kinds.is_validation_data.Goals as goal

pub returns : goal.returns
returns c =
    called_as _ (xadesv141 (codes "TimeStampValidationData")) (spot_of c.args.doc c.args.property) _ (xadesv141_name _ (codes "TimeStampValidationData") refl c.xadesv141.ensures) c.is_called.ensures
