use Rattle.std.proofs.Common.{refl, codes, ◌∙◌}
use Rattle.signature_elements.specs.Standing.{spot_of}
use Rattle.signature_model.specs.Shape.{points_to}
use Rattle.signature_elements.proofs.AsciiNames.{attribute_as}
use Rattle.outer_lines.proofs.qualifying.is_target.Goals as goal

pub returns : goal.returns
returns c =
    let target = attribute_as (spot_of c.args.doc c.args.properties) (codes "Target") _ refl c.attribute.ensures in
    let id = attribute_as (spot_of c.args.doc c.args.signature) (codes "Id") _ refl c.attribute-2.ensures in
    c.points_to.ensures ∙ (λ i. points_to (target i) (id i))
