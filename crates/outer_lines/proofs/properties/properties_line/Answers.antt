use Rattle.std.proofs.Common.{◌++◌, refl, codes}
use Rattle.doc_spans.specs.Seen.{document_in}
use Rattle.signature_model.specs.Holding.{misfits, with_stray_text, without_attribute}
use Rattle.signature_model.specs.Parts as parts
use Rattle.signature_elements.specs.Standing.{spot_of}
use Rattle.signature_parts.proofs.Adding.{adds_more, adds_first, adds_at, adds_by, adds_strays}
use Rattle.signature_elements.proofs.AsciiNames.{word}
use Rattle.outer_lines.proofs.properties.properties_line.Goals as goal

pub returns : goal.returns
returns c =
    let doc = c.args.doc in
    let document = document_in doc in
    let signature = spot_of doc c.args.signature in
    let holder = adds_at (with_stray_text document) doc _ _ _ _ c.qualifying-holder.ensures c.add_with_stray_text.ensures in
    let signed = adds_at (with_stray_text document) doc _ _ _ _ c.signed_properties-signed.ensures c.add_with_stray_text-2.ensures in
    let unsigned = adds_at (with_stray_text document) doc _ _ _ _ c.unsigned-unsigned.ensures c.add_with_stray_text-3.ensures in
    let innermost = adds_at (with_stray_text document) doc _ _ _ _ c.unsigned_signature.ensures c.add_with_stray_text-4.ensures in
    let holders = parts.qualifying document signature in
    let with_signed = holders ++ parts.signed_properties document signature in
    let with_unsigned = with_signed ++ parts.unsigned document signature in
    let outer = adds_strays doc with_signed (parts.unsigned document signature) _ _ _ (adds_strays doc holders (parts.signed_properties document signature) _ _ _ holder signed) unsigned in
    let strays = adds_strays doc with_unsigned (parts.unsigned_signature document signature) _ _ _ outer innermost in
    let misplaced = adds_by (misfits document) doc _ _ _ _ _ _ c.children.ensures c.qualifying-holder.ensures c.add_misfits.ensures in
    let nameless = adds_by without_attribute doc _ _ _ _ _ _ (word (codes "Id") refl) c.signed_properties-signed.ensures c.add_without_attribute.ensures in
    let further = adds_by (misfits document) doc _ _ _ _ _ _ c.unsigned_children.ensures c.unsigned-unsigned.ensures c.add_misfits-2.ensures in
    adds_first doc _ _ _ c.none-places.ensures
    (adds_more doc _ _ _ _ _ (adds_more doc _ _ _ _ _ (adds_more doc _ _ _ _ _ strays misplaced) nameless) further)
