use Rattle.std.proofs.Common.{codes}
use Rattle.std.specs.Prelude.{filter}
use Rattle.doc_spans.specs.Seen.{document_in}
use Rattle.signature_model.specs.Parts.{signed_properties}
use Rattle.signature_model.specs.Shape.{signed_data_properties}
use Rattle.signature_model.specs.Spots.{called_in}
use Rattle.signature_model.specs.Vocabulary.{xades}
use Rattle.signature_elements.specs.Standing.{spot_of}
use Rattle.inner_lines.specs.LineParts.{faults_by_formats, is_format_of}
use Rattle.signature_parts.proofs.Adding.{adds_as}
use Rattle.signature_parts.proofs.AnyOrder.{adds_alike}
use Rattle.inner_lines.proofs.FormatLists.{two_for_all}
use Rattle.inner_lines.proofs.Ordered.{order_called, order_kept}
use Rattle.inner_lines.proofs.formats.add_format_faults.Goals as goal

pub add_seen-requires : goal.add_seen-requires
add_seen-requires c = record {
  within = c.requires.within;
  properties = c.requires.found.properties.there;
  seen = c.in_ok-seen.ensures.there _ c.requires.found.formats;
}

pub returns : goal.returns
returns c =
    let document = document_in c.args.doc in
    let signature = spot_of c.args.doc c.args.objects.now.signature in
    let reference = spot_of c.args.doc c.args.reference in
    let holders = signed_data_properties document signature in
    let all = called_in document (xades (codes "DataObjectFormat")) holders in
    let formats = filter (is_format_of reference) all in
    let ordered = order_kept (is_format_of reference) all (order_called document (xades (codes "DataObjectFormat")) (called_in document (xades (codes "SignedDataObjectProperties")) (signed_properties document signature))) in
    adds_alike c.args.doc _ _ _ _ (two_for_all document holders formats ordered)
    (adds_as c.args.doc _ _ _ _ (λ i. faults_by_formats document (c.requires.found.properties.spot i) (c.in_ok-seen.ensures.seen all c.requires.found.formats i)) c.add_seen.ensures)
