use Rattle.std.proofs.Common.{◌++◌}
use Rattle.doc_spans.specs.Seen.{document_in}
use Rattle.signature_model.specs.Holding.{misfits, with_stray_text}
use Rattle.signature_model.specs.Parts as parts
use Rattle.signature_elements.specs.Standing.{spot_of}
use Rattle.signature_parts.proofs.Adding.{adds_more, adds_first, adds_at, adds_by, adds_strays}
use Rattle.outer_lines.proofs.info.info_line.Goals as goal

pub returns : goal.returns
returns c =
    let doc = c.args.doc in
    let document = document_in doc in
    let signature = spot_of doc c.args.signature in
    let info = adds_at (with_stray_text document) doc _ _ _ _ c.signed_info-info.ensures c.add_with_stray_text.ensures in
    let method = adds_at (with_stray_text document) doc _ _ _ _ c.method.ensures c.add_with_stray_text-2.ensures in
    let signature_method = adds_at (with_stray_text document) doc _ _ _ _ c.signature_method.ensures c.add_with_stray_text-3.ensures in
    let misplaced = adds_by (misfits document) doc _ _ _ _ _ _ c.children.ensures c.signed_info-info.ensures c.add_misfits.ensures in
    let infos = parts.signed_info document signature in
    let methods = parts.method document signature in
    let strays = adds_strays doc (infos ++ methods) (parts.signature_method document signature) _ _ _ (adds_strays doc infos methods _ _ _ info method) signature_method in
    adds_first doc _ _ _ c.none-places.ensures (adds_more doc _ _ _ _ _ strays misplaced)
