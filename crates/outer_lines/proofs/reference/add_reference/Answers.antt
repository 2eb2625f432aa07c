use Rattle.std.proofs.Common.{[], ◌∷◌, ◌++◌, refl, codes}
use Rattle.doc_spans.specs.Seen.{document_in}
use Rattle.signature_model.specs.Holding.{misfits, with_stray_text, without_attribute, without_octets}
use Rattle.signature_model.specs.Parts.{digest_methods, transform_lists}
use Rattle.signature_model.specs.Spots.{first}
use Rattle.signature_elements.specs.Standing.{spot_of}
use Rattle.signature_parts.proofs.Adding.{adds_more, adds_at, adds_by, adds_strays, part_of}
use Rattle.signature_elements.proofs.AsciiNames.{word}
use Rattle.outer_lines.proofs.reference.add_reference.Goals as goal

pub returns : goal.returns
returns c =
    let doc = c.args.doc in
    let document = document_in doc in
    let reference = part_of doc c.args.reference c.requires.reference in
    let transforms = adds_at (with_stray_text document) doc _ _ _ _ c.transform_list.ensures c.add_with_stray_text-2.ensures in
    let digest = adds_at (with_stray_text document) doc _ _ _ _ c.digest_method-digest.ensures c.add_with_stray_text-3.ensures in
    let spots = spot_of doc c.args.reference ∷ [] in
    let lists = first (transform_lists document (spot_of doc c.args.reference)) in
    let strays = adds_strays doc (spots ++ lists) (digest_methods document spots) _ _ _ (adds_strays doc spots lists _ _ _ c.add_with_stray_text.ensures transforms) digest in
    let pointless = adds_by without_attribute doc _ _ _ _ _ _ (word (codes "URI") refl) reference c.add_without_attribute.ensures in
    let misplaced = adds_by (misfits document) doc _ _ _ _ _ _ c.children.ensures reference c.add_misfits.ensures in
    let nameless = adds_by without_attribute doc _ _ _ _ _ _ (word (codes "Algorithm") refl) c.digest_method-digest.ensures c.add_without_attribute-2.ensures in
    let octets = adds_at (without_octets document) doc _ _ _ _ c.digest_value.ensures c.add_without_octets.ensures in
    adds_more doc _ _ _ _ _ (adds_more doc _ _ _ _ _ (adds_more doc _ _ _ _ _ (adds_more doc _ _ _ _ _ strays pointless) misplaced) nameless) octets
