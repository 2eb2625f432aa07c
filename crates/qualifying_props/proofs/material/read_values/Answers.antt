use Rattle.std.proofs.Common.{refl, codes, cond, ap, ◌∙◌}
use Rattle.std.proofs.lemmas.Result.{on_ok_weaker}
use Rattle.doc_spans.specs.Seen.{document_in}
use Rattle.signature_elements.specs.Standing.{spot_of}
use Rattle.signature_model.specs.Parts.{as_kind, Certificate}
use Rattle.signature_model.specs.Spots.{called}
use Rattle.signature_model.specs.Vocabulary.{xades}
use Rattle.signature_parts.proofs.Named.{xades_name, all_called}
use Rattle.qualifying_props.specs.Data.{lists_of}
use Rattle.qualifying_props.proofs.Reading.{reads_as}
use Rattle.qualifying_props.proofs.material.read_values.Goals as goal

pub returns-then-is_certificate_values : goal.returns-then-is_certificate_values
returns-then-is_certificate_values c =
    let doc = c.args.doc in
    let document = document_in doc in
    let name = xades (codes "EncapsulatedX509Certificate") in
    let spot = spot_of doc c.args.values in
    let held = all_called doc _ name spot _ (xades_name _ (codes "EncapsulatedX509Certificate") refl c.xades.ensures) c.called-elements.ensures.spots in
    let whole = ap (as_kind Certificate) held ∙ ap (λ b. cond b (as_kind Certificate (called document name spot)) (lists_of document spot)) c.if-is_certificate_values.ensures in
    on_ok_weaker c.read_elements.result (reads_as doc _ _ _ _ _ _ whole) c.read_elements.ensures
