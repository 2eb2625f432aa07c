use Rattle.std.proofs.Common.{Bool, true, false, not, cond, refl, sym, ◌∙◌, ap, codes, []}
use Rattle.document_model.specs.Characters.{is_empty}
use Rattle.doc_spans.specs.Seen.{document_in}
use Rattle.signature_elements.specs.Standing.{spot_of}
use Rattle.signature_model.specs.Parts.{key_certificates, key_data}
use Rattle.signature_model.specs.Spots.{first, paths}
use Rattle.signature_model.specs.Vocabulary.{ds}
use Rattle.signature_parts.proofs.Adding.{adds_as, adds_none}
use Rattle.signature_parts.proofs.Named.{ds_name, none_by, part_in}
use Rattle.signature_parts.proofs.FromNone.{adds_part}
use Rattle.inner_lines.proofs.key.add_without_certificate.Goals as goal

pub returns-then-not-has_certificate : goal.returns-then-not-has_certificate
returns-then-not-has_certificate c =
    let document = document_in c.args.doc in
    let signature = spot_of c.args.doc c.args.signature in
    let choice = λ (b : Bool). cond b (paths (first (key_data document signature))) [] in
    let empty = none_by (is_empty (key_certificates document signature)) _ c.has_certificate.ensures ∙ ap not c.if-not-has_certificate.true in
    let part = part_in c.args.doc _ (ds (codes "X509Data")) _ _ _ (ds_name _ (codes "X509Data") refl c.ds.ensures) c.key_info.ensures c.first_in.ensures.spot c.first_in.ensures.there in
    adds_as c.args.doc _ _ _ _ (sym (ap choice empty)) (adds_part c.args.doc paths _ _ _ _ part.spot c.add_part.ensures)

pub returns-else-not-has_certificate : goal.returns-else-not-has_certificate
returns-else-not-has_certificate c =
    let document = document_in c.args.doc in
    let signature = spot_of c.args.doc c.args.signature in
    let choice = λ (b : Bool). cond b (paths (first (key_data document signature))) [] in
    let empty = none_by (is_empty (key_certificates document signature)) _ c.has_certificate.ensures ∙ ap not c.if-not-has_certificate.false in
    adds_as c.args.doc _ _ _ _ (sym (ap choice empty)) (adds_none c.args.doc c.args.place.now c.requires.within)
