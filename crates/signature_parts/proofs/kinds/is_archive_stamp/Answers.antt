use Rattle.std.proofs.Common.{refl, codes}
use Rattle.signature_model.specs.Vocabulary.{xadesv141}
use Rattle.signature_elements.specs.Standing.{spot_of}
use Rattle.signature_parts.proofs.Named.{xadesv141_name, called_as}
use Rattle.signature_parts.proofs.kinds.is_archive_stamp.Goals as goal

pub returns : goal.returns
returns c =
    called_as _ (xadesv141 (codes "ArchiveTimeStamp")) (spot_of c.args.doc c.args.property) _ (xadesv141_name _ (codes "ArchiveTimeStamp") refl c.xadesv141.ensures) c.is_called.ensures
