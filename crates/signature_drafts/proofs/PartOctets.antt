-- The parts of the signature in octets.
use Rattle.std.proofs.Common.{◌≡◌, ℕ, ◌+◌, ◌<◌, ◌≤◌, List, [], ◌∷◌, ◌++◌, length, get_or, drop, sym, ◌∙◌, ap, append_assoc, codes}
use Rattle.std.proofs.lemmas.List.{append-nil, drop_more, drop_all}
use Rattle.std.specs.Char.{encode_utf8}
use Rattle.document_model.specs.Methods.{exclusive_name}
use Rattle.document_model.specs.Tree.{Nodes, no_nodes}
use Rattle.signature_model.specs.Vocabulary.{ds_space, xades_space, fragment}
use Rattle.signature_model.specs.Fragments.{written_octets, prefixed, having, declaring, ds_element, xades_element, encoded, ◌then◌}
use Rattle.signature_model.specs.Prepared.{Draft, algorithm, references_from, last_reference, first_certificate, signature_nodes}
use Rattle.signature_drafts.specs.Parts.{signed_info_nodes, certificate_nodes, key_info_nodes, object_nodes}
use Rattle.signature_drafts.specs.Properties.{properties_with}
use Rattle.signature_drafts.proofs.Written.{quoted, element_octets, joined_octets, joins}

pub signed_info_octets : (digest_of : List ℕ → List ℕ) (value : List ℕ) (draft : Draft) → written_octets (signed_info_nodes digest_of value draft)
    ≡ joins (codes "<ds:SignedInfo><ds:CanonicalizationMethod Algorithm=\"http://www.w3.org/2001/10/xml-exc-c14n#\"></ds:CanonicalizationMethod>" ∷ written_octets (algorithm (codes "SignatureMethod") draft.method)
    ∷ written_octets (references_from draft digest_of 1 draft.references) ∷ written_octets (last_reference draft value) ∷ codes "</ds:SignedInfo>" ∷ [])
unfolding encode_utf8
signed_info_octets digest_of value draft =
    let form : Nodes = algorithm (codes "CanonicalizationMethod") exclusive_name in
    let method : Nodes = algorithm (codes "SignatureMethod") draft.method in
    let asked : Nodes = references_from draft digest_of 1 draft.references in
    let last : Nodes = last_reference draft value in
    element_octets (prefixed (codes "ds") (codes "SignedInfo")) [] (form then method then asked then last)
    ∙ (λ i. codes "<ds:SignedInfo>" ++ (joined_octets form (method then asked then last) i ++ codes "</ds:SignedInfo>"))
    ∙ (λ i. codes "<ds:SignedInfo>" ++ ((written_octets form ++ joined_octets method (asked then last) i) ++ codes "</ds:SignedInfo>"))
    ∙ (λ i. codes "<ds:SignedInfo>" ++ ((written_octets form ++ (written_octets method ++ joined_octets asked last i)) ++ codes "</ds:SignedInfo>"))
    ∙ regroup (codes "<ds:SignedInfo>") (codes "<ds:CanonicalizationMethod Algorithm=\"http://www.w3.org/2001/10/xml-exc-c14n#\"></ds:CanonicalizationMethod>") (written_octets method) (written_octets asked) (written_octets last) (codes "</ds:SignedInfo>")
  where
    regroup : (a b c d e f : List ℕ) → a ++ ((b ++ (c ++ (d ++ e))) ++ f) ≡ a ++ (b ++ (c ++ (d ++ (e ++ (f ++ [])))))
    regroup a b c d e f = simp (append_assoc, append-nil)

pub certificate_octets : (octets : List ℕ) → written_octets (certificate_nodes (octets ∷ [])) ≡ joins (codes "<ds:X509Certificate>" ∷ written_octets (encoded octets) ∷ codes "</ds:X509Certificate>" ∷ [])
unfolding encode_utf8
certificate_octets octets = element_octets (prefixed (codes "ds") (codes "X509Certificate")) [] (encoded octets)

pub further_octets : (octets : List ℕ) (others : List (List ℕ)) → written_octets (certificate_nodes (octets ∷ others)) ≡ written_octets (certificate_nodes (octets ∷ [])) ++ written_octets (certificate_nodes others)
further_octets octets others = joined_octets (ds_element (codes "X509Certificate") [] (encoded octets)) (certificate_nodes others)

pub key_info_octets : (draft : Draft) → written_octets (key_info_nodes draft)
    ≡ joins (codes "<ds:KeyInfo><ds:X509Data>" ∷ written_octets (certificate_nodes draft.certificates) ∷ codes "</ds:X509Data></ds:KeyInfo>" ∷ [])
unfolding encode_utf8
key_info_octets draft =
    let certificates : Nodes = certificate_nodes draft.certificates in
    element_octets (prefixed (codes "ds") (codes "KeyInfo")) [] (ds_element (codes "X509Data") [] certificates)
    ∙ (λ i. codes "<ds:KeyInfo>" ++ (element_octets (prefixed (codes "ds") (codes "X509Data")) [] certificates i ++ codes "</ds:KeyInfo>"))
    ∙ regroup (codes "<ds:KeyInfo>") (codes "<ds:X509Data>") (written_octets certificates) (codes "</ds:X509Data>") (codes "</ds:KeyInfo>")
  where
    regroup : (a b c d e : List ℕ) → a ++ ((b ++ (c ++ d)) ++ e) ≡ a ++ (b ++ (c ++ (d ++ (e ++ []))))
    regroup a b c d e = simp (append_assoc, append-nil)

pub object_octets : (value : List ℕ) (draft : Draft) → written_octets (object_nodes value draft)
    ≡ joins (codes "<ds:Object><xades:QualifyingProperties xmlns:xades=\"http://uri.etsi.org/01903/v1.3.2#\" Target=\"#" ∷ quoted draft.id ∷ codes "\">" ∷ written_octets (properties_with [] [] value draft)
    ∷ codes "</xades:QualifyingProperties></ds:Object>" ∷ [])
unfolding encode_utf8
object_octets value draft =
    let properties : Nodes = properties_with [] [] value draft in
    let qualifying : Nodes = xades_element (codes "QualifyingProperties") (declaring (codes "xades") xades_space ∷ having (codes "Target") (fragment draft.id) ∷ []) properties in
    element_octets (prefixed (codes "ds") (codes "Object")) [] qualifying
    ∙ (λ i. codes "<ds:Object>" ++ (element_octets (prefixed (codes "xades") (codes "QualifyingProperties")) (declaring (codes "xades") xades_space ∷ having (codes "Target") (fragment draft.id) ∷ []) properties i ++ codes "</ds:Object>"))
    ∙ regroup (codes "<ds:Object>") (codes "<xades:QualifyingProperties xmlns:xades=\"http://uri.etsi.org/01903/v1.3.2#\" Target=\"#") (quoted draft.id) (codes "\">") (written_octets properties) (codes "</xades:QualifyingProperties>") (codes "</ds:Object>")
  where
    regroup : (a b c d e f g : List ℕ) → a ++ ((b ++ (c ++ (d ++ (e ++ f)))) ++ g) ≡ a ++ (b ++ (c ++ (d ++ (e ++ (f ++ (g ++ []))))))
    regroup a b c d e f g = simp (append_assoc, append-nil)

pub signature_octets : (digest digest_of : List ℕ → List ℕ) (value : List ℕ) (draft : Draft) → written_octets (signature_nodes digest digest_of value draft)
    ≡ joins (codes "<ds:Signature xmlns:ds=\"http://www.w3.org/2000/09/xmldsig#\" Id=\"" ∷ quoted draft.id ∷ codes "\">" ∷ written_octets (signed_info_nodes digest_of value draft)
    ∷ codes "<ds:SignatureValue></ds:SignatureValue>" ∷ written_octets (key_info_nodes draft) ∷ written_octets (object_nodes (digest (first_certificate draft)) draft) ∷ codes "</ds:Signature>" ∷ [])
unfolding encode_utf8
signature_octets digest digest_of value draft =
    let info : Nodes = signed_info_nodes digest_of value draft in
    let empty : Nodes = ds_element (codes "SignatureValue") [] no_nodes in
    let key : Nodes = key_info_nodes draft in
    let object : Nodes = object_nodes (digest (first_certificate draft)) draft in
    let front : List ℕ = codes "<ds:Signature xmlns:ds=\"http://www.w3.org/2000/09/xmldsig#\" Id=\"" in
    element_octets (prefixed (codes "ds") (codes "Signature")) (declaring (codes "ds") ds_space ∷ having (codes "Id") draft.id ∷ []) (info then empty then key then object)
    ∙ (λ i. front ++ (quoted draft.id ++ (codes "\">" ++ (joined_octets info (empty then key then object) i ++ codes "</ds:Signature>"))))
    ∙ (λ i. front ++ (quoted draft.id ++ (codes "\">" ++ ((written_octets info ++ joined_octets empty (key then object) i) ++ codes "</ds:Signature>"))))
    ∙ (λ i. front ++ (quoted draft.id ++ (codes "\">" ++ ((written_octets info ++ (written_octets empty ++ joined_octets key object i)) ++ codes "</ds:Signature>"))))
    ∙ regroup front (quoted draft.id) (codes "\">") (written_octets info) (codes "<ds:SignatureValue></ds:SignatureValue>") (written_octets key) (written_octets object) (codes "</ds:Signature>")
  where
    regroup : (a b c d e f g h : List ℕ) → a ++ (b ++ (c ++ ((d ++ (e ++ (f ++ g))) ++ h))) ≡ a ++ (b ++ (c ++ (d ++ (e ++ (f ++ (g ++ (h ++ [])))))))
    regroup a b c d e f g h = simp (append_assoc, append-nil)

-- certificates one after another

pub certificates_end : (n : ℕ) (certificates : List (List ℕ)) (out whole : List ℕ) → length certificates ≤ n → out ++ written_octets (certificate_nodes (drop n certificates)) ≡ whole → out ≡ whole
certificates_end n certificates out whole h e = sym (append-nil out) ∙ ap (λ x. out ++ written_octets (certificate_nodes x)) (sym (drop_all n certificates h)) ∙ e

pub certificates_more : (n : ℕ) (certificates : List (List ℕ)) (octets out new whole : List ℕ) → n < length certificates → octets ≡ get_or certificates n []
    → new ≡ out ++ written_octets (certificate_nodes (octets ∷ [])) → out ++ written_octets (certificate_nodes (drop n certificates)) ≡ whole
    → new ++ written_octets (certificate_nodes (drop (n + 1) certificates)) ≡ whole
certificates_more n certificates octets out new whole h g e f =
    let one : List ℕ = get_or certificates n [] in
    let rest : List (List ℕ) = drop (n + 1) certificates in
    ap (λ x. x ++ written_octets (certificate_nodes rest)) (e ∙ ap (λ x. out ++ written_octets (certificate_nodes (x ∷ []))) g)
    ∙ append_assoc out (written_octets (certificate_nodes (one ∷ []))) (written_octets (certificate_nodes rest))
    ∙ ap (λ x. out ++ x) (sym (further_octets one rest))
    ∙ ap (λ x. out ++ written_octets (certificate_nodes x)) (sym (drop_more certificates n [] h))
    ∙ f
