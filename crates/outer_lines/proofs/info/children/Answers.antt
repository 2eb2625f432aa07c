use Rattle.std.proofs.Common.{[], ◌∷◌, refl, codes, ap, ◌∙◌}
use Rattle.signature_model.specs.Holding.{one, one_or_more}
use Rattle.signature_parts.proofs.Named.{ds_name}
use Rattle.outer_lines.proofs.info.children.Goals as goal

pub returns : goal.returns
returns c =
    let first = c.one.ensures ∙ ap one (ds_name _ (codes "CanonicalizationMethod") refl c.ds-method.ensures) in
    let second = c.one-2.ensures ∙ ap one (ds_name _ (codes "SignatureMethod") refl c.ds-signature_method.ensures) in
    let third = c.one_or_more.ensures ∙ ap one_or_more (ds_name _ (codes "Reference") refl c.ds-reference.ensures) in
    λ i. first i ∷ second i ∷ third i ∷ []
