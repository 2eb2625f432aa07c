use Rattle.std.proofs.Common.{refl, codes, ◌∙◌}
use Rattle.signature_model.specs.Vocabulary.{xades}
use Rattle.signature_elements.specs.Standing.{spot_of}
use Rattle.signature_parts.proofs.Named.{xades_name, has_called}
use Rattle.signature_parts.proofs.object_elements.is_qualifying.Goals as goal

pub returns : goal.returns
returns c =
    c.is_some.ensures
    ∙ has_called c.args.doc _ (xades (codes "QualifyingProperties")) (spot_of c.args.doc c.args.object) _ (xades_name _ (codes "QualifyingProperties") refl c.xades.ensures)
    c.first_called.ensures.spot
