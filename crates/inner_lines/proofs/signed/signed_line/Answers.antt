use Rattle.std.proofs.Common.{◌≡◌, List, refl, sym, ◌∙◌, ap, codes, ◌++◌, append_assoc}
use Rattle.document_model.specs.Tree.{Path}
use Rattle.doc_spans.specs.Seen.{document_in}
use Rattle.signature_model.specs.Holding.{lacking, not_one, with_stray_text, without_octets, without_text}
use Rattle.signature_model.specs.Parts.{certificate_digest, digest_methods, digest_values, signed_properties, signed_signature_properties, signing_certificate_property, signing_time}
use Rattle.signature_model.specs.Shape.{signed_line}
use Rattle.signature_model.specs.Spots.{Spot, has_stray_text, held_at}
use Rattle.signature_model.specs.Vocabulary.{ds, xades}
use Rattle.signature_elements.specs.Standing.{spot_of}
use Rattle.inner_lines.specs.LineParts.{certificate_faults, nameless_methods, time_faults}
use Rattle.signature_parts.specs.Parts.{certificate}
use Rattle.signature_parts.proofs.Adding.{adds_as, adds_more}
use Rattle.signature_parts.proofs.AnyOrder.{Alike, alike_as, alike_on, alike_crossed}
use Rattle.signature_parts.proofs.Spread.{tested_more}
use Rattle.signature_parts.proofs.FromNone.{first_of_all, adds_part, adds_part_xades}
use Rattle.inner_lines.proofs.signed.signed_line.Goals as goal

order : (h p c d one time blank property first second third fourth fifth sixth all : List Path) → all ≡ ((h ++ p) ++ c) ++ d
    → Alike ((((h ++ one) ++ (time ++ blank)) ++ property) ++ (((((p ++ c) ++ d) ++ first) ++ second) ++ (((third ++ fourth) ++ fifth) ++ sixth)))
    (all ++ one ++ time ++ blank ++ property ++ first ++ second ++ third ++ fourth ++ fifth ++ sixth)
order h p c d one time blank property first second third fourth fifth sixth all e =
    let middle = ((one ++ time) ++ blank) ++ property in
    let stray = (p ++ c) ++ d in
    let rest = (first ++ second) ++ (((third ++ fourth) ++ fifth) ++ sixth) in
    let front : (((h ++ one) ++ (time ++ blank)) ++ property) ++ (((((p ++ c) ++ d) ++ first) ++ second) ++ (((third ++ fourth) ++ fifth) ++ sixth)) ≡ (h ++ middle) ++ (stray ++ rest) = simp append_assoc in
    let last : (h ++ stray) ++ (middle ++ rest) ≡ h ++ p ++ c ++ d ++ one ++ time ++ blank ++ property ++ first ++ second ++ third ++ fourth ++ fifth ++ sixth = simp append_assoc in
    alike_on _ _ _ (alike_as _ _ front) (alike_on _ _ _ (alike_crossed h middle stray rest)
    (alike_as _ _ (last ∙ ap (λ (a : List Path). a ++ one ++ time ++ blank ++ property ++ first ++ second ++ third ++ fourth ++ fifth ++ sixth) (sym e))))

pub returns : goal.returns
returns c =
    let document = document_in c.args.doc in
    let signature = spot_of c.args.doc c.args.signature in
    let holders = signed_signature_properties document signature in
    let property = signing_certificate_property document signature in
    let cert = certificate document signature in
    let digest = certificate_digest document signature in
    let stray = λ (spot : Spot). has_stray_text (held_at document spot.path) in
    let signed = not_one document (xades (codes "SignedSignatureProperties")) (signed_properties document signature) in
    first_of_all c.args.doc _ (signed_line document signature) _ _ c.none-place.ensures
    (order (with_stray_text document holders) (with_stray_text document property) (with_stray_text document cert) (with_stray_text document digest) signed
    (not_one document (xades (codes "SigningTime")) holders) (without_text document (signing_time document signature)) (not_one document (xades (codes "SigningCertificateV2")) holders)
    (lacking document (xades (codes "Cert")) property) (lacking document (xades (codes "CertDigest")) cert)
    (lacking document (ds (codes "DigestMethod")) digest) (nameless_methods (digest_methods document digest)) (lacking document (ds (codes "DigestValue")) digest)
    (without_octets document (digest_values document digest)) _
    (tested_more stray (holders ++ property ++ cert) digest
    ∙ ap (λ front. front ++ with_stray_text document digest) (tested_more stray (holders ++ property) cert ∙ ap (λ front. front ++ with_stray_text document cert) (tested_more stray holders property))))
    (adds_more c.args.doc _ (certificate_faults document property cert digest) _ _ _
    (adds_more c.args.doc _ (not_one document (xades (codes "SigningCertificateV2")) holders) _ _ _
    (adds_more c.args.doc _ (time_faults document holders (signing_time document signature)) _ _ _
    (adds_more c.args.doc (with_stray_text document holders) signed _ _ _
    (adds_part c.args.doc (with_stray_text document) _ _ _ _ c.signed_signature_properties-properties.ensures.spot c.add_with_stray_text.ensures)
    (adds_part_xades c.args.doc (not_one document) (codes "SignedSignatureProperties") _ _ _ _ _ refl c.xades.ensures c.signed_properties.ensures.spot c.add_not_one.ensures))
    (adds_as c.args.doc _ _ _ _ (λ i. time_faults document (c.signed_signature_properties-properties.ensures.spot i) (c.signing_time.ensures.spot i)) c.add_time.ensures))
    (adds_part_xades c.args.doc (not_one document) (codes "SigningCertificateV2") _ _ _ _ _ refl c.xades-2.ensures c.signed_signature_properties-properties.ensures.spot c.add_not_one-2.ensures))
    (adds_as c.args.doc _ _ _ _ (λ i. certificate_faults document (c.signing_certificate_property.ensures.spot i) (c.certificate.ensures.spot i) (c.certificate_digest.ensures.spot i)) c.add_certificate.ensures))
