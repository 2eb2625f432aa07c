use Rattle.std.proofs.Common.{refl}
use Rattle.doc_spans.specs.Seen.{document_in}
use Rattle.signature_model.specs.Holding.{with_stray_text}
use Rattle.signature_model.specs.Parts.{references}
use Rattle.signature_model.specs.Shape.{data_object_line, signed_data_properties}
use Rattle.signature_elements.specs.Standing.{spot_of}
use Rattle.inner_lines.specs.LineParts.{wanting_faults, without_data_properties}
use Rattle.signature_parts.proofs.Adding.{adds_more}
use Rattle.signature_parts.proofs.AnyOrder.{alike_as}
use Rattle.signature_parts.proofs.FromNone.{first_of_all, adds_part}
use Rattle.inner_lines.proofs.data_object.line_of.Goals as goal

pub returns : goal.returns
returns c =
    let document = document_in c.args.doc in
    let signature = spot_of c.args.doc c.args.objects.now.signature in
    first_of_all c.args.doc _ (data_object_line document signature) _ _ c.none-place.ensures (alike_as _ _ refl)
    (adds_more c.args.doc _ (wanting_faults document signature (references document signature)) _ _ _
    (adds_more c.args.doc (with_stray_text document (signed_data_properties document signature)) (without_data_properties document signature) _ _ _
    (adds_part c.args.doc (with_stray_text document) _ _ _ _ c.requires.found.properties.spot c.add_with_stray_text.ensures)
    c.add_without_properties.ensures) c.in_ok-add_references.ensures)
