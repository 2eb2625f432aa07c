use Rattle.std.proofs.Common.{refl, codes, ap}
use Rattle.doc_spans.specs.Seen.{document_in}
use Rattle.signature_elements.specs.Standing.{spot_of}
use Rattle.signature_elements.proofs.Laws.{next_spot}
use Rattle.signature_model.specs.Parts.{as_kind, Certificate}
use Rattle.signature_model.specs.Spots.{called, called_in}
use Rattle.signature_model.specs.Vocabulary.{ds}
use Rattle.signature_parts.specs.ListsLeft.{named_doc, named_left}
use Rattle.signature_parts.proofs.Named.{ds_name, all_called}
use Rattle.qualifying_props.proofs.DataOfKind.{data_called}
use Rattle.qualifying_props.proofs.Reading.{reading_goes_on, reads_as}
use Rattle.qualifying_props.proofs.values.read_key_certs.Goals as goal

pub loop-holder-preserved : goal.loop-holder-preserved
loop-holder-preserved c =
    let doc = c.args.doc in
    let document = document_in doc in
    let name = ds (codes "X509Certificate") in
    let spot = spot_of doc c.in-Some.holder in
    let before = named_left c.loop-holder.holder-iterator in
    let left = named_left c.next.new.self in
    let next = next_spot named_doc named_left doc c.loop-holder.holder-iterator c.next.new.self c.in-Some.holder c.loop-holder.invariant.2 c.in-Some.ensures.steps in
    let held = all_called doc _ name spot _ (ds_name _ (codes "X509Certificate") refl c.ds.ensures) c.called-elements.ensures.spots in (
      tt,
      tt,
      next.doc_is,
      reading_goes_on doc (as_kind Certificate (called document name spot)) (as_kind Certificate (called_in document name left))
          (as_kind Certificate (called_in document name before)) _ _ _ _ _ _ _ (data_called Certificate document name before left spot next.spots)
          c.loop-holder.invariant.3 (reads_as doc _ _ _ _ _ _ (ap (as_kind Certificate) held) c.in_ok-read_elements.ensures),
    )
