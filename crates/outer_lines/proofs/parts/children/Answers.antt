use Rattle.std.proofs.Common.{[], ◌∷◌, refl, codes, ap, ◌∙◌}
use Rattle.signature_model.specs.Holding.{any_number, one}
use Rattle.signature_parts.proofs.Named.{ds_name}
use Rattle.outer_lines.proofs.parts.children.Goals as goal

pub returns : goal.returns
returns c =
    let first = c.one.ensures ∙ ap one (ds_name _ (codes "SignedInfo") refl c.ds-info.ensures) in
    let second = c.one-2.ensures ∙ ap one (ds_name _ (codes "SignatureValue") refl c.ds-value.ensures) in
    let third = c.one-3.ensures ∙ ap one (ds_name _ (codes "KeyInfo") refl c.ds-key.ensures) in
    let fourth = c.any_number.ensures ∙ ap any_number (ds_name _ (codes "Object") refl c.ds-object.ensures) in
    λ i. first i ∷ second i ∷ third i ∷ fourth i ∷ []
