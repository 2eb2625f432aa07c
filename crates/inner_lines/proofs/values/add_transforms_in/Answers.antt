use Rattle.std.proofs.Common.{refl, sym, ◌∙◌, ap, codes}
use Rattle.std.proofs.lemmas.List.{append-nil}
use Rattle.std.specs.Prelude.{filter}
use Rattle.doc_spans.specs.Seen.{document_in}
use Rattle.signature_model.specs.Holding.{with_stray_text}
use Rattle.signature_model.specs.Spots.{is_called, elements_in}
use Rattle.signature_model.specs.Vocabulary.{ds}
use Rattle.signature_elements.specs.Standing.{spot_of}
use Rattle.signature_parts.proofs.Adding.{adds_as}
use Rattle.signature_parts.proofs.Named.{ds_name, all_called}
use Rattle.inner_lines.proofs.values.add_transforms_in.Goals as goal

pub returns : goal.returns
returns c =
    let document = document_in c.args.doc in
    let spot = spot_of c.args.doc c.args.list in
    let name = ds (codes "Transform") in
    let found = all_called c.args.doc _ name spot _ (ds_name _ (codes "Transform") refl c.ds.ensures) c.called.ensures.spots in
    adds_as c.args.doc _ _ _ _ (ap (with_stray_text document) (found ∙ ap (filter (is_called name)) (sym (append-nil (elements_in document spot))))) c.add_each_with_stray_text.ensures
