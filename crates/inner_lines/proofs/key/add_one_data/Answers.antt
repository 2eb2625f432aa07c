use Rattle.std.proofs.Common.{refl, sym, ◌∙◌, ap, codes, [], ◌∷◌}
use Rattle.std.proofs.lemmas.List.{append-nil}
use Rattle.doc_spans.specs.Seen.{document_in}
use Rattle.signature_model.specs.Holding.{with_stray_text, without_value}
use Rattle.signature_model.specs.Spots.{called, called_in}
use Rattle.signature_model.specs.Vocabulary.{ds}
use Rattle.signature_elements.specs.Standing.{spot_of}
use Rattle.signature_parts.proofs.Adding.{adds_as, adds_more}
use Rattle.signature_parts.proofs.Named.{ds_name, all_called}
use Rattle.inner_lines.proofs.key.add_one_data.Goals as goal

pub returns : goal.returns
returns c =
    let document = document_in c.args.doc in
    let spot = spot_of c.args.doc c.args.holder in
    let name = ds (codes "X509Certificate") in
    let values = all_called c.args.doc _ name spot _ (ds_name _ (codes "X509Certificate") refl c.ds.ensures) c.called.ensures.spots ∙ sym (append-nil (called document name spot)) in
    adds_more c.args.doc (with_stray_text document (spot ∷ [])) (without_value document (called_in document name (spot ∷ []))) _ _ _ c.add_with_stray_text.ensures
    (adds_as c.args.doc _ _ _ _ (ap (without_value document) values) c.add_each_without_value.ensures)
