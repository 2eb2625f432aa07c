use Rattle.std.proofs.Common.{refl, codes}
use Rattle.doc_spans.specs.Seen.{document_in}
use Rattle.signature_model.specs.Holding.{lacking, with_stray_text}
use Rattle.signature_model.specs.Vocabulary.{xades}
use Rattle.signature_elements.specs.Standing.{spot_or_none}
use Rattle.inner_lines.specs.LineParts.{digest_faults}
use Rattle.signature_parts.proofs.Adding.{adds_more}
use Rattle.signature_parts.proofs.FromNone.{adds_xades}
use Rattle.inner_lines.proofs.signed.add_certificate.Goals as goal

pub returns : goal.returns
returns c =
    let document = document_in c.args.doc in
    let property = spot_or_none c.args.doc c.args.property in
    let cert = spot_or_none c.args.doc c.args.certificate in
    let digest = spot_or_none c.args.doc c.args.digest in
    adds_more c.args.doc _ (digest_faults document digest) _ _ _
    (adds_more c.args.doc _ (lacking document (xades (codes "CertDigest")) cert) _ _ _
    (adds_more c.args.doc _ (lacking document (xades (codes "Cert")) property) _ _ _
    (adds_more c.args.doc _ (with_stray_text document digest) _ _ _
    (adds_more c.args.doc (with_stray_text document property) (with_stray_text document cert) _ _ _ c.add_with_stray_text.ensures c.add_with_stray_text-2.ensures)
    c.add_with_stray_text-3.ensures)
    (adds_xades c.args.doc (λ name. lacking document name property) (codes "Cert") _ _ _ refl c.xades.ensures c.add_lacking.ensures))
    (adds_xades c.args.doc (λ name. lacking document name cert) (codes "CertDigest") _ _ _ refl c.xades-2.ensures c.add_lacking-2.ensures))
    c.add_digest.ensures
