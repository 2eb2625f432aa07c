use Rattle.std.proofs.Common.{is_none}
use Rattle.std.specs.Prelude.{filter}
use Rattle.doc_spans.specs.Seen.{document_in}
use Rattle.signature_model.specs.Parts.{form_in}
use Rattle.signature_model.specs.Spots.{Spot, paths}
use Rattle.signature_model.specs.Parts as parts
use Rattle.signature_model.specs.Shape.{stamp_methods}
use Rattle.signature_elements.specs.Standing.{spot_of}
use Rattle.signature_parts.proofs.Adding.{adds_more, adds_first, adds_at, adds_tests}
use Rattle.outer_lines.proofs.form.form_line.Goals as goal

pub returns : goal.returns
returns c =
    let doc = c.args.doc in
    let document = document_in doc in
    let signature = spot_of doc c.args.signature in
    let is_formless = λ (spot : Spot). is_none (form_in document spot) in
    let method = adds_at (λ spots. paths (filter is_formless spots)) doc _ _ _ _ c.method.ensures c.add_without_form.ensures in
    adds_first doc _ _ _ c.none-places.ensures
    (adds_more doc _ _ _ _ _ c.add_stray_methods.ensures (adds_tests is_formless doc (parts.method document signature) (stamp_methods document signature) _ _ _ method c.add_formless_methods.ensures))
