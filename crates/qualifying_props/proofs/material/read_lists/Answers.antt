use Rattle.std.proofs.Common.{refl, codes, ap, ◌∙◌}
use Rattle.doc_spans.specs.Seen.{document_in}
use Rattle.signature_elements.specs.NamedLeft.{called_doc, called_left}
use Rattle.signature_elements.specs.Standing.{spot_of}
use Rattle.signature_elements.proofs.Laws.{next_spot}
use Rattle.signature_model.specs.Parts.{as_kind, RevocationList}
use Rattle.signature_model.specs.Spots.{called, called_in}
use Rattle.signature_model.specs.Vocabulary.{xades}
use Rattle.signature_parts.proofs.Named.{xades_name, all_called}
use Rattle.qualifying_props.proofs.DataOfKind.{data_called}
use Rattle.qualifying_props.proofs.Reading.{reading_starts, reading_goes_on, reads_as}
use Rattle.qualifying_props.proofs.material.read_lists.Goals as goal

pub loop-holder-init : goal.loop-holder-init
loop-holder-init c =
    let doc = c.args.doc in
    let document = document_in doc in
    let holders = c.into_iter-holder-iterator.ensures.into_iter_gives in
    let spots = all_called doc _ (xades (codes "CRLValues")) (spot_of doc c.args.values) _ (xades_name _ (codes "CRLValues") refl c.xades.ensures) c.called-holder-items.ensures.spots in (
      tt,
      tt,
      ap called_doc holders ∙ c.called-holder-items.ensures.doc,
      reading_starts doc _ _ _ _ _ (ap (λ hs. as_kind RevocationList (called_in document (xades (codes "EncapsulatedCRLValue")) hs)) (ap called_left holders ∙ spots)) refl c.requires.within,
    )

pub loop-holder-preserved : goal.loop-holder-preserved
loop-holder-preserved c =
    let doc = c.args.doc in
    let document = document_in doc in
    let name = xades (codes "EncapsulatedCRLValue") in
    let spot = spot_of doc c.in-Some.holder in
    let before = called_left c.loop-holder.holder-iterator in
    let left = called_left c.next.new.self in
    let next = next_spot called_doc called_left doc c.loop-holder.holder-iterator c.next.new.self c.in-Some.holder c.loop-holder.invariant.2 c.in-Some.ensures.steps in
    let held = all_called doc _ name spot _ (xades_name _ (codes "EncapsulatedCRLValue") refl c.xades-in-loop-holder.ensures) c.called-elements.ensures.spots in (
      tt,
      tt,
      next.doc_is,
      reading_goes_on doc (as_kind RevocationList (called document name spot)) (as_kind RevocationList (called_in document name left))
          (as_kind RevocationList (called_in document name before)) _ _ _ _ _ _ _ (data_called RevocationList document name before left spot next.spots)
          c.loop-holder.invariant.3 (reads_as doc _ _ _ _ _ _ (ap (as_kind RevocationList) held) c.in_ok-read_elements.ensures),
    )
