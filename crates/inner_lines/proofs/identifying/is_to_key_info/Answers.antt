use Rattle.std.proofs.Common.{◌≡◌, Bool, true, false, ◌||◌, Option, [], refl, sym, codes, ap, ◌∙◌}
use Rattle.std.specs.List.{list_any}
use Rattle.std.specs.Prelude.{unwrap_or}
use Rattle.doc_spans.specs.declared.documents.NodeId.{NodeId}
use Rattle.signature_model.specs.Parts.{uri}
use Rattle.signature_model.specs.Shape.{is_identifying}
use Rattle.signature_model.specs.Spots.{Spot, attributes_in}
use Rattle.signature_elements.specs.Standing.{spot_of, spot_or_none}
use Rattle.signature_elements.proofs.AsciiNames.{attribute_as}
use Rattle.inner_lines.proofs.identifying.is_to_key_info.Goals as goal

or_false : (b : Bool) → b ≡ (b || false)
or_false true = refl
or_false false = refl

pub returns-in-Some : goal.returns-in-Some
returns-in-Some c =
    let reference = spot_of c.args.doc c.args.reference in
    let tags = (spot_of c.args.doc c.in-Some.node).tags in
    c.is_identified.ensures
    ∙ ap (λ o. list_any (is_identifying (unwrap_or o [])) (attributes_in tags)) (attribute_as reference (codes "URI") _ refl c.attribute.ensures)
    ∙ or_false (list_any (is_identifying (uri reference)) (attributes_in tags))
    ∙ ap (λ (key : Option NodeId). list_any (λ (spot : Spot). list_any (is_identifying (uri reference)) (attributes_in spot.tags)) (spot_or_none c.args.doc key)) (sym c.in-Some.is)
