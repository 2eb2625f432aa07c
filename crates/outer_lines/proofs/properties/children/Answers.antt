use Rattle.std.proofs.Common.{[], ◌∷◌, refl, codes, ap, ◌∙◌}
use Rattle.signature_model.specs.Holding.{at_most_one, one}
use Rattle.signature_parts.proofs.Named.{xades_name}
use Rattle.outer_lines.proofs.properties.children.Goals as goal

pub returns : goal.returns
returns c =
    let first = c.one.ensures ∙ ap one (xades_name _ (codes "SignedProperties") refl c.xades-signed.ensures) in
    let second = c.at_most_one.ensures ∙ ap at_most_one (xades_name _ (codes "UnsignedProperties") refl c.xades-unsigned.ensures) in
    λ i. first i ∷ second i ∷ []
