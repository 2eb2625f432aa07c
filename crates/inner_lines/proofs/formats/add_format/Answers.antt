use Rattle.std.proofs.Common.{refl, sym, ◌∙◌, ap, codes, [], ◌∷◌}
use Rattle.std.proofs.lemmas.List.{append-nil}
use Rattle.doc_spans.specs.Seen.{document_in}
use Rattle.signature_model.specs.Holding.{lacking, with_stray_text, without_text}
use Rattle.signature_model.specs.Spots.{called, called_in, first}
use Rattle.signature_model.specs.Vocabulary.{xades}
use Rattle.signature_elements.specs.Standing.{spot_of}
use Rattle.signature_parts.proofs.Adding.{adds_more}
use Rattle.signature_parts.proofs.Named.{xades_name, part_called}
use Rattle.signature_parts.proofs.FromNone.{adds_part, adds_xades}
use Rattle.inner_lines.proofs.formats.add_format.Goals as goal

pub returns : goal.returns
returns c =
    let document = document_in c.args.doc in
    let spot = spot_of c.args.doc c.args.format in
    let name = xades (codes "MimeType") in
    let part = part_called c.args.doc _ name spot _ (xades_name _ (codes "MimeType") refl c.xades-2.ensures) c.first_called.ensures.spot c.first_called.ensures.there in
    adds_more c.args.doc _ (without_text document (first (called_in document name (spot ∷ [])))) _ _ _
    (adds_more c.args.doc (with_stray_text document (spot ∷ [])) (lacking document name (spot ∷ [])) _ _ _ c.add_with_stray_text.ensures
    (adds_xades c.args.doc (λ name. lacking document name (spot ∷ [])) (codes "MimeType") _ _ _ refl c.xades.ensures c.add_lacking.ensures))
    (adds_part c.args.doc (without_text document) _ _ _ _ (part.spot ∙ ap first (sym (append-nil (called document name spot)))) c.add_without_text.ensures)
