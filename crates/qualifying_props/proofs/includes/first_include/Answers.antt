use Rattle.std.proofs.Common.{refl, ap, ◌∙◌, codes}
use Rattle.doc_spans.specs.Seen.{document_in}
use Rattle.signature_elements.specs.Standing.{spot_of}
use Rattle.signature_elements.proofs.Laws.{next_spot}
use Rattle.signature_model.specs.Spots.{called, called_in, paths}
use Rattle.signature_model.specs.Vocabulary.{xades}
use Rattle.signature_parts.specs.StampsLeft.{stamps_doc, stamps_left}
use Rattle.signature_parts.proofs.Adding.{adds_as}
use Rattle.signature_parts.proofs.Named.{xades_name, all_called}
use Rattle.qualifying_props.proofs.Finding.{finding_starts, finding_goes_on, paths_called}
use Rattle.qualifying_props.proofs.includes.first_include.Goals as goal

pub loop-stamp-init : goal.loop-stamp-init
loop-stamp-init c =
    let stamps = c.into_iter-stamp-iterator.ensures.into_iter_gives in (
      tt,
      tt,
      ap stamps_doc stamps ∙ c.of-stamp-items.ensures.doc,
      finding_starts c.args.doc _ _ _ c.none-place.ensures
          (ap (λ spots. paths (called_in (document_in c.args.doc) (xades (codes "Include")) spots)) (ap stamps_left stamps ∙ c.of-stamp-items.ensures.spots)),
    )

pub loop-stamp-preserved : goal.loop-stamp-preserved
loop-stamp-preserved c =
    let doc = c.args.doc in
    let document = document_in doc in
    let name = xades (codes "Include") in
    let spot = spot_of doc c.in-Some.stamp in
    let before = stamps_left c.loop-stamp.stamp-iterator in
    let left = stamps_left c.next.new.self in
    let next = next_spot stamps_doc stamps_left doc c.loop-stamp.stamp-iterator c.next.new.self c.in-Some.stamp c.loop-stamp.invariant.2 c.in-Some.ensures.steps in
    let held = all_called doc _ name spot _ (xades_name _ (codes "Include") refl c.xades.ensures) c.called.ensures.spots in (
      tt,
      tt,
      next.doc_is,
      finding_goes_on doc (paths (called document name spot)) (paths (called_in document name left)) (paths (called_in document name before)) _
          c.loop-stamp.place c.add_all.new.self (paths_called document name before left spot next.spots) c.loop-stamp.invariant.3
          (adds_as doc _ _ _ _ (ap paths held) c.add_all.ensures),
    )
