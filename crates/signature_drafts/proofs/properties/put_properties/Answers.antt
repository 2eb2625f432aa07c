use Rattle.std.proofs.Common.{◌≡◌, ◌++◌, ◌∙◌, ℕ, List, [], ◌∷◌, OnOk, ap, sym, subst, codes}
use Rattle.document_model.specs.Items.{Attribute}
use Rattle.signature_model.specs.Vocabulary.{digest_name}
use Rattle.signature_model.specs.Fragments.{written_octets, text}
use Rattle.signature_model.specs.Prepared.{formats_from}
use Rattle.signature_drafts.specs.Properties.{attributes_octets, digest_with, properties_with}
use Rattle.signature_drafts.specs.Standing.{declared_ds, declared_xades}
use Rattle.signature_drafts.proofs.PropertyOctets.{properties_octets}
use Rattle.signature_drafts.proofs.SimpleTexts.{simple_text}
use Rattle.signature_drafts.proofs.Written.{quoted, one_more, put_whole}
use Rattle.signature_drafts.proofs.properties.put_properties.Goals as goal

pub returns : goal.returns
returns c =
    let P : List ℕ → Type 0 = λ xs. OnOk c.push_all-8.result (c.push_all-8.new.self ≡ xs) in
    let ds : List Attribute = declared_ds c.args.standing in
    let xades : List Attribute = declared_xades c.args.standing in
    let end : List ℕ = codes "</xades:SignedDataObjectProperties></xades:SignedProperties>" in
    let id : List ℕ = quoted c.args.draft.now.id in
    let declared : c.as_bytes.result.now ≡ attributes_octets xades = c.as_bytes.ensures.value ∙ c.xades.ensures in
    let named = ap (λ x. c.push_all-3.new.self ++ quoted x) c.id.ensures in
    let time = c.time.ensures ∙ sym (simple_text c.args.draft.now.time c.requires.simple) in
    let kind = ap (λ x. c.push_all-6.new.self ++ written_octets (digest_with ds (digest_name x) c.args.digest.now)) c.digest.ensures in
    let s2 = one_more _ _ _ _ c.in_ok-push_all.ensures.ok (c.in_ok-push_all-2.ensures.ok ∙ ap (λ x. c.push_all.new.self ++ x) declared) in
    let s3 = one_more _ _ _ _ s2 c.in_ok-push_all-3.ensures.ok in
    let s4 = one_more _ _ _ _ s3 (c.in_ok-put_quoted.ensures ∙ named) in
    let s5 = one_more _ _ _ _ s4 c.in_ok-push_all-4.ensures.ok in
    let s6 = one_more _ _ _ _ s5 (c.in_ok-push_all-5.ensures.ok ∙ ap (λ x. c.push_all-4.new.self ++ x) time) in
    let s7 = one_more _ _ _ _ s6 c.in_ok-push_all-6.ensures.ok in
    let s8 = one_more _ _ _ _ s7 (c.in_ok-put_digest.ensures ∙ kind) in
    let s9 = one_more _ _ _ _ s8 c.in_ok-push_all-7.ensures.ok in
    let s10 = one_more _ _ _ _ s9 c.in_ok-put_formats.ensures in
    subst P (put_whole c.args.out.now c.put_formats.new.out end
    (codes "<xades:SignedProperties" ∷ attributes_octets xades ∷ codes " Id=\"" ∷ id ∷ codes "-sp\"><xades:SignedSignatureProperties><xades:SigningTime>" ∷ written_octets (text c.args.draft.now.time)
    ∷ codes "</xades:SigningTime><xades:SigningCertificateV2><xades:Cert><xades:CertDigest>" ∷ written_octets (digest_with ds (digest_name c.args.draft.now.digest) c.args.digest.now)
    ∷ codes "</xades:CertDigest></xades:Cert></xades:SigningCertificateV2></xades:SignedSignatureProperties><xades:SignedDataObjectProperties>" ∷ written_octets (formats_from c.args.draft.now 1 c.args.draft.now.references)
    ∷ end ∷ [])
    (properties_with ds xades c.args.digest.now c.args.draft.now) (ap (λ x. x ++ end) s10) (properties_octets ds xades c.args.digest.now c.args.draft.now)) c.push_all-8.ensures.ok
