use Rattle.std.proofs.Common.{[], ◌∷◌, refl, codes, ap, ◌∙◌}
use Rattle.signature_model.specs.Holding.{at_most_one}
use Rattle.signature_parts.proofs.Named.{xades_name}
use Rattle.outer_lines.proofs.properties.unsigned_children.Goals as goal

pub returns : goal.returns
returns c =
    let first = c.at_most_one.ensures ∙ ap at_most_one (xades_name _ (codes "UnsignedSignatureProperties") refl c.xades.ensures) in
    λ i. first i ∷ []
