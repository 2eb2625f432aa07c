-- Signed properties in octets.
use Rattle.std.proofs.Common.{◌≡◌, ℕ, suc, ◌+◌, ◌<◌, ◌≤◌, List, [], ◌∷◌, ◌++◌, length, get_or, drop, refl, sym, ◌∙◌, ap, append_assoc, arith, codes}
use Rattle.std.proofs.lemmas.List.{append-nil, drop_more, drop_all}
use Rattle.std.specs.Char.{encode_utf8}
use Rattle.std.specs.Fmt.{decimal}
use Rattle.document_model.specs.Items.{Attribute}
use Rattle.document_model.specs.Tree.{Nodes}
use Rattle.signature_model.specs.Vocabulary.{digest_name, fragment}
use Rattle.signature_model.specs.Chains.{Place, Document, Named, External, place_named}
use Rattle.signature_model.specs.Fragments.{written_octets, prefixed, having, xades_element, text, ◌then◌}
use Rattle.signature_model.specs.Prepared.{Draft, reference_id, properties_id, mime_type, format_nodes, formats_from}
use Rattle.signature_drafts.specs.Properties.{attributes_octets, digest_with, properties_with}
use Rattle.signature_drafts.proofs.Written.{quoted, element_octets, joined_octets, each_joined, joins}
use Rattle.signature_drafts.proofs.QuotedTexts.{quoted_append}
use Rattle.signature_drafts.proofs.ReferenceOctets.{quoted_id}

-- the media type as it stands
pub type_octets : (place : Place) → written_octets (text (mime_type place)) ≡ mime_type place
unfolding encode_utf8
type_octets Document = refl
type_octets (Named identifier) = refl
type_octets External = refl

pub format_octets : (draft : Draft) (k : ℕ) (uri : List ℕ) → written_octets (format_nodes draft k uri)
    ≡ joins (codes "<xades:DataObjectFormat ObjectReference=\"#" ∷ quoted draft.id ∷ codes "-r" ∷ decimal k ∷ codes "\"><xades:MimeType>" ∷ mime_type (place_named uri)
    ∷ codes "</xades:MimeType></xades:DataObjectFormat>" ∷ [])
unfolding encode_utf8
format_octets draft k uri =
    let told : List ℕ = mime_type (place_named uri) in
    let named : Nodes = xades_element (codes "MimeType") [] (text told) in
    let front : List ℕ = codes "<xades:DataObjectFormat ObjectReference=\"#" in
    element_octets (prefixed (codes "xades") (codes "DataObjectFormat")) (having (codes "ObjectReference") (fragment (reference_id draft.id k)) ∷ []) named
    ∙ (λ i. front ++ (quoted_id draft.id k i ++ (codes "\">" ++ (element_octets (prefixed (codes "xades") (codes "MimeType")) [] (text told) i ++ codes "</xades:DataObjectFormat>"))))
    ∙ (λ i. front ++ ((quoted draft.id ++ (codes "-r" ++ decimal k)) ++ (codes "\">" ++ ((codes "<xades:MimeType>" ++ (type_octets (place_named uri) i ++ codes "</xades:MimeType>")) ++ codes "</xades:DataObjectFormat>"))))
    ∙ regroup front (quoted draft.id) (codes "-r") (decimal k) (codes "\">") (codes "<xades:MimeType>") told (codes "</xades:MimeType>") (codes "</xades:DataObjectFormat>")
  where
    regroup : (a b c d e f g h i : List ℕ) → a ++ ((b ++ (c ++ d)) ++ (e ++ ((f ++ (g ++ h)) ++ i))) ≡ a ++ (b ++ (c ++ (d ++ (e ++ (f ++ (g ++ (h ++ (i ++ []))))))))
    regroup a b c d e f g h i = simp (append_assoc, append-nil)

pub properties_octets : (ds xades : List Attribute) (value : List ℕ) (draft : Draft) → written_octets (properties_with ds xades value draft)
    ≡ joins (codes "<xades:SignedProperties" ∷ attributes_octets xades ∷ codes " Id=\"" ∷ quoted draft.id ∷ codes "-sp\"><xades:SignedSignatureProperties><xades:SigningTime>" ∷ written_octets (text draft.time)
    ∷ codes "</xades:SigningTime><xades:SigningCertificateV2><xades:Cert><xades:CertDigest>" ∷ written_octets (digest_with ds (digest_name draft.digest) value)
    ∷ codes "</xades:CertDigest></xades:Cert></xades:SigningCertificateV2></xades:SignedSignatureProperties><xades:SignedDataObjectProperties>" ∷ written_octets (formats_from draft 1 draft.references)
    ∷ codes "</xades:SignedDataObjectProperties></xades:SignedProperties>" ∷ [])
unfolding encode_utf8
properties_octets ds xades value draft =
    let time : Nodes = text draft.time in
    let told : Nodes = digest_with ds (digest_name draft.digest) value in
    let formats : Nodes = formats_from draft 1 draft.references in
    let certificate_digest : Nodes = xades_element (codes "CertDigest") [] told in
    let certificate : Nodes = xades_element (codes "Cert") [] certificate_digest in
    let signing_certificate : Nodes = xades_element (codes "SigningCertificateV2") [] certificate in
    let signing_time : Nodes = xades_element (codes "SigningTime") [] time in
    let signature_properties : Nodes = xades_element (codes "SignedSignatureProperties") [] (signing_time then signing_certificate) in
    let object_properties : Nodes = xades_element (codes "SignedDataObjectProperties") [] formats in
    let t : List ℕ = written_octets time in
    let d : List ℕ = written_octets told in
    let f : List ℕ = written_octets formats in
    let certificate_is : written_octets signing_certificate ≡ codes "<xades:SigningCertificateV2><xades:Cert><xades:CertDigest>" ++ (d ++ codes "</xades:CertDigest></xades:Cert></xades:SigningCertificateV2>") =
    element_octets (prefixed (codes "xades") (codes "SigningCertificateV2")) [] certificate
    ∙ (λ i. codes "<xades:SigningCertificateV2>" ++ (element_octets (prefixed (codes "xades") (codes "Cert")) [] certificate_digest i ++ codes "</xades:SigningCertificateV2>"))
    ∙ (λ i. codes "<xades:SigningCertificateV2>" ++ ((codes "<xades:Cert>" ++ (element_octets (prefixed (codes "xades") (codes "CertDigest")) [] told i ++ codes "</xades:Cert>")) ++ codes "</xades:SigningCertificateV2>"))
    ∙ inner (codes "<xades:SigningCertificateV2>") (codes "<xades:Cert>") (codes "<xades:CertDigest>") d (codes "</xades:CertDigest>") (codes "</xades:Cert>") (codes "</xades:SigningCertificateV2>") in
    let signature_is : written_octets signature_properties ≡ codes "<xades:SignedSignatureProperties><xades:SigningTime>" ++ (t ++ (codes "</xades:SigningTime><xades:SigningCertificateV2><xades:Cert><xades:CertDigest>"
    ++ (d ++ codes "</xades:CertDigest></xades:Cert></xades:SigningCertificateV2></xades:SignedSignatureProperties>"))) =
    element_octets (prefixed (codes "xades") (codes "SignedSignatureProperties")) [] (signing_time then signing_certificate)
    ∙ (λ i. codes "<xades:SignedSignatureProperties>" ++ (joined_octets signing_time signing_certificate i ++ codes "</xades:SignedSignatureProperties>"))
    ∙ (λ i. codes "<xades:SignedSignatureProperties>" ++ ((element_octets (prefixed (codes "xades") (codes "SigningTime")) [] time i ++ certificate_is i) ++ codes "</xades:SignedSignatureProperties>"))
    ∙ middle (codes "<xades:SignedSignatureProperties>") (codes "<xades:SigningTime>") t (codes "</xades:SigningTime>") (codes "<xades:SigningCertificateV2><xades:Cert><xades:CertDigest>") d
    (codes "</xades:CertDigest></xades:Cert></xades:SigningCertificateV2>") (codes "</xades:SignedSignatureProperties>") in
    let object_is : written_octets object_properties ≡ codes "<xades:SignedDataObjectProperties>" ++ (f ++ codes "</xades:SignedDataObjectProperties>") =
    element_octets (prefixed (codes "xades") (codes "SignedDataObjectProperties")) [] formats in
    element_octets (prefixed (codes "xades") (codes "SignedProperties")) (xades ++ having (codes "Id") (properties_id draft.id) ∷ []) (signature_properties then object_properties)
    ∙ ap (λ x. codes "<xades:SignedProperties" ++ x) (each_joined xades (having (codes "Id") (properties_id draft.id) ∷ []) (codes ">" ++ (written_octets (signature_properties then object_properties) ++ codes "</xades:SignedProperties>")))
    ∙ (λ i. codes "<xades:SignedProperties" ++ (attributes_octets xades ++ (codes " Id=\"" ++ (quoted_append draft.id (codes "-sp") i ++ (codes "\">" ++ (joined_octets signature_properties object_properties i ++ codes "</xades:SignedProperties>"))))))
    ∙ (λ i. codes "<xades:SignedProperties" ++ (attributes_octets xades ++ (codes " Id=\"" ++ ((quoted draft.id ++ codes "-sp") ++ (codes "\">" ++ ((signature_is i ++ object_is i) ++ codes "</xades:SignedProperties>"))))))
    ∙ outer (codes "<xades:SignedProperties") (attributes_octets xades) (codes " Id=\"") (quoted draft.id) (codes "-sp") (codes "\">") (codes "<xades:SignedSignatureProperties><xades:SigningTime>") t
    (codes "</xades:SigningTime><xades:SigningCertificateV2><xades:Cert><xades:CertDigest>") d (codes "</xades:CertDigest></xades:Cert></xades:SigningCertificateV2></xades:SignedSignatureProperties>")
    (codes "<xades:SignedDataObjectProperties>") f (codes "</xades:SignedDataObjectProperties>") (codes "</xades:SignedProperties>")
  where
    inner : (a b c d e f g : List ℕ) → a ++ ((b ++ ((c ++ (d ++ e)) ++ f)) ++ g) ≡ a ++ (b ++ (c ++ (d ++ (e ++ (f ++ g)))))
    inner a b c d e f g = simp append_assoc

    middle : (a b c d e f g h : List ℕ) → a ++ (((b ++ (c ++ d)) ++ (e ++ (f ++ g))) ++ h) ≡ a ++ (b ++ (c ++ (d ++ (e ++ (f ++ (g ++ h))))))
    middle a b c d e f g h = simp append_assoc

    outer : (a b c d e f g h i j k l m n o : List ℕ) → a ++ (b ++ (c ++ ((d ++ e) ++ (f ++ (((g ++ (h ++ (i ++ (j ++ k)))) ++ (l ++ (m ++ n))) ++ o)))))
        ≡ a ++ (b ++ (c ++ (d ++ (e ++ (f ++ (g ++ (h ++ (i ++ (j ++ (k ++ (l ++ (m ++ (n ++ (o ++ []))))))))))))))
    outer a b c d e f g h i j k l m n o = simp (append_assoc, append-nil)

-- formats one after another

pub formats_end : (draft : Draft) (k n : ℕ) (uris : List (List ℕ)) (out whole : List ℕ) → length uris ≤ n → out ++ written_octets (formats_from draft k (drop n uris)) ≡ whole → out ≡ whole
formats_end draft k n uris out whole h e = sym (append-nil out) ∙ ap (λ x. out ++ written_octets (formats_from draft k x)) (sym (drop_all n uris h)) ∙ e

pub formats_more : (draft : Draft) (n : ℕ) (uris : List (List ℕ)) (uri out new whole : List ℕ) → n < length uris → uri ≡ get_or uris n []
    → new ≡ out ++ written_octets (format_nodes draft (n + 1) uri) → out ++ written_octets (formats_from draft (n + 1) (drop n uris)) ≡ whole
    → new ++ written_octets (formats_from draft (n + 1 + 1) (drop (n + 1) uris)) ≡ whole
formats_more draft n uris uri out new whole h g e f =
    let one : Nodes = format_nodes draft (n + 1) (get_or uris n []) in
    let rest : ℕ → Nodes = λ k. formats_from draft k (drop (n + 1) uris) in
    let next : n + 1 + 1 ≡ suc (n + 1) = omega arith in
    ap (λ k. new ++ written_octets (rest k)) next
    ∙ ap (λ x. x ++ written_octets (rest (suc (n + 1)))) (e ∙ ap (λ x. out ++ written_octets (format_nodes draft (n + 1) x)) g)
    ∙ append_assoc out (written_octets one) (written_octets (rest (suc (n + 1))))
    ∙ ap (λ x. out ++ x) (sym (joined_octets one (rest (suc (n + 1)))))
    ∙ ap (λ x. out ++ written_octets (formats_from draft (n + 1) x)) (sym (drop_more uris n [] h))
    ∙ f
