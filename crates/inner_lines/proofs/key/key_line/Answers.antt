use Rattle.std.proofs.Common.{◌≡◌, List, refl, sym, ◌∙◌, ap, codes, ◌++◌, append_assoc}
use Rattle.document_model.specs.Tree.{Path}
use Rattle.doc_spans.specs.Seen.{document_in}
use Rattle.signature_model.specs.Holding.{lacking, with_stray_text, without_value}
use Rattle.signature_model.specs.Parts.{key_info, key_data, key_certificates}
use Rattle.signature_model.specs.Shape.{key_line}
use Rattle.signature_model.specs.Spots.{has_stray_text, held_at}
use Rattle.signature_model.specs.Vocabulary.{ds}
use Rattle.signature_elements.specs.Standing.{spot_of}
use Rattle.inner_lines.specs.LineParts.{key_data_faults, without_certificate}
use Rattle.signature_parts.proofs.Adding.{adds_more}
use Rattle.signature_parts.proofs.AnyOrder.{Alike, alike_as, alike_on, alike_crossed, alike_joined, alike_swapped}
use Rattle.signature_parts.proofs.Spread.{tested_more}
use Rattle.signature_parts.proofs.FromNone.{first_of_all, adds_part, adds_part_ds}
use Rattle.inner_lines.proofs.key.key_line.Goals as goal

order : (info lacks held values first both : List Path) → both ≡ info ++ held
    → Alike (((info ++ lacks) ++ (held ++ values)) ++ first) (((both ++ lacks) ++ first) ++ values)
order info lacks held values first both e =
    let crossed = alike_joined _ _ first first (alike_crossed info lacks held values) (alike_as _ _ refl) in
    let swapped = alike_joined ((info ++ held) ++ lacks) ((info ++ held) ++ lacks) _ _ (alike_as _ _ refl) (alike_swapped values first) in
    let middle : ((info ++ held) ++ (lacks ++ values)) ++ first ≡ ((info ++ held) ++ lacks) ++ (values ++ first) = simp append_assoc in
    let last : ((info ++ held) ++ lacks) ++ (first ++ values) ≡ (((info ++ held) ++ lacks) ++ first) ++ values = simp append_assoc in
    alike_on _ _ _ crossed (alike_on _ _ _ (alike_as _ _ middle) (alike_on _ _ _ swapped (alike_as _ _ (last ∙ ap (λ front. ((front ++ lacks) ++ first) ++ values) (sym e)))))

pub returns : goal.returns
returns c =
    let document = document_in c.args.doc in
    let signature = spot_of c.args.doc c.args.signature in
    let info = key_info document signature in
    let holders = key_data document signature in
    first_of_all c.args.doc _ (key_line document signature) _ _ c.none-place.ensures
    (order (with_stray_text document info) (lacking document (ds (codes "X509Data")) info) (with_stray_text document holders) (without_value document (key_certificates document signature))
    (without_certificate document signature) _ (tested_more (λ spot. has_stray_text (held_at document spot.path)) info holders))
    (adds_more c.args.doc _ (without_certificate document signature) _ _ _
    (adds_more c.args.doc _ (key_data_faults document holders) _ _ _
    (adds_more c.args.doc (with_stray_text document info) (lacking document (ds (codes "X509Data")) info) _ _ _
    (adds_part c.args.doc (with_stray_text document) _ _ _ _ c.key_info-info.ensures.spot c.add_with_stray_text.ensures)
    (adds_part_ds c.args.doc (lacking document) (codes "X509Data") _ _ _ _ _ refl c.ds.ensures c.key_info-info.ensures.spot c.add_lacking.ensures))
    c.add_data.ensures) c.add_without_certificate.ensures)
