use Rattle.std.proofs.Common.{[], ◌∷◌, refl, codes, ap, ◌∙◌}
use Rattle.signature_model.specs.Holding.{at_most_one, one}
use Rattle.signature_parts.proofs.Named.{ds_name}
use Rattle.outer_lines.proofs.reference.children.Goals as goal

pub returns : goal.returns
returns c =
    let first = c.at_most_one.ensures ∙ ap at_most_one (ds_name _ (codes "Transforms") refl c.ds-transforms.ensures) in
    let second = c.one.ensures ∙ ap one (ds_name _ (codes "DigestMethod") refl c.ds-method.ensures) in
    let third = c.one-2.ensures ∙ ap one (ds_name _ (codes "DigestValue") refl c.ds-value.ensures) in
    λ i. first i ∷ second i ∷ third i ∷ []
