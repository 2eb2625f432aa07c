use Rattle.std.proofs.Common.{◌||◌, Some, None, refl, codes, ap, ◌∙◌}
use Rattle.std.specs.Prelude.{is_none}
use Rattle.doc_spans.specs.Pieces.{characters_left}
use Rattle.signature_model.specs.Shape.{id_of, points_to}
use Rattle.signature_elements.specs.Standing.{spot_of}
use Rattle.signature_elements.proofs.AsciiNames.{attribute_as}
use Rattle.inner_lines.proofs.covered.points_to_element.Goals as goal

pub returns-in-Some : goal.returns-in-Some
returns-in-Some c =
    let reference = spot_of c.args.doc c.args.reference in
    let node = spot_of c.args.doc c.args.node in
    let uri = attribute_as reference (codes "URI") _ refl c.in-Some.ensures in
    let id = attribute_as node (codes "Id") _ refl c.attribute-in-Some.ensures in
    c.points_to.ensures ∙ ap (points_to (Some (characters_left c.in-Some.uri))) id ∙ ap (λ o. is_none o || points_to o (id_of node)) uri

pub returns-in-None : goal.returns-in-None
returns-in-None c =
    ap (λ o. is_none o || points_to o (id_of (spot_of c.args.doc c.args.node))) (attribute_as (spot_of c.args.doc c.args.reference) (codes "URI") None refl c.in-None.ensures)
