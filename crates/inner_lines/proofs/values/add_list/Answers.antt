use Rattle.std.proofs.Common.{refl, sym, ◌∙◌, ap, codes}
use Rattle.std.proofs.lemmas.List.{append-nil}
use Rattle.doc_spans.specs.Seen.{document_in}
use Rattle.signature_model.specs.Holding.{without_value}
use Rattle.signature_model.specs.Spots.{called}
use Rattle.signature_model.specs.Vocabulary.{xades}
use Rattle.signature_elements.specs.Standing.{spot_of}
use Rattle.signature_parts.proofs.Adding.{adds_as}
use Rattle.signature_parts.proofs.Named.{xades_name, all_called}
use Rattle.inner_lines.proofs.values.add_list.Goals as goal

pub returns : goal.returns
returns c =
    let document = document_in c.args.doc in
    let spot = spot_of c.args.doc c.args.list in
    let name = xades (codes "EncapsulatedCRLValue") in
    let values = all_called c.args.doc _ name spot _ (xades_name _ (codes "EncapsulatedCRLValue") refl c.xades.ensures) c.called.ensures.spots ∙ sym (append-nil (called document name spot)) in
    adds_as c.args.doc _ _ _ _ (ap (without_value document) values) c.add_each_without_value.ensures
