use Rattle.std.proofs.Common.{refl, codes}
use Rattle.signature_model.specs.Vocabulary.{xades}
use Rattle.signature_elements.specs.Standing.{spot_of}
use Rattle.signature_parts.proofs.Named.{xades_name, all_called}
use Rattle.inner_lines.proofs.values.revocation_lists.Goals as goal

pub returns-clause-spots : goal.returns-clause-spots
returns-clause-spots c =
    all_called c.args.doc _ (xades (codes "CRLValues")) (spot_of c.args.doc c.args.holder) _ (xades_name _ (codes "CRLValues") refl c.xades.ensures) c.called.ensures.spots
