use Rattle.std.proofs.Common.{◌≡◌, ◌++◌, ◌∙◌, ℕ, List, [], ◌∷◌, OnOk, ap, subst, codes}
use Rattle.signature_model.specs.Fragments.{written_octets}
use Rattle.signature_model.specs.Prepared.{first_certificate, signature_nodes}
use Rattle.signature_drafts.specs.Parts.{key_info_nodes, object_nodes, signed_info_nodes}
use Rattle.signature_drafts.proofs.PartOctets.{signature_octets}
use Rattle.signature_drafts.proofs.Written.{quoted, one_more, put_whole}
use Rattle.signature_drafts.proofs.signature.put_signature.Goals as goal

pub returns : goal.returns
returns c = λ digest digest_of value are.
    let P : List ℕ → Type 0 = λ xs. OnOk c.push_all-4.result (c.push_all-4.new.self ≡ xs) in
    let end : List ℕ = codes "</ds:Signature>" in
    let draft = c.args.draft.now in
    let id : List ℕ = quoted draft.id in
    let named = ap (λ x. c.push_all.new.self ++ quoted x) c.id.ensures in
    let told = ap (λ x. c.put_key_info.new.out ++ written_octets (object_nodes x draft)) (c.as_slice.ensures.value ∙ are.certificate) in
    let s2 = one_more _ _ _ _ c.in_ok-push_all.ensures.ok (c.in_ok-put_quoted.ensures ∙ named) in
    let s3 = one_more _ _ _ _ s2 c.in_ok-push_all-2.ensures.ok in
    let s4 = one_more _ _ _ _ s3 (c.in_ok-put_signed_info.ensures digest digest_of value are) in
    let s5 = one_more _ _ _ _ s4 c.in_ok-push_all-3.ensures.ok in
    let s6 = one_more _ _ _ _ s5 c.in_ok-put_key_info.ensures in
    let s7 = one_more _ _ _ _ s6 (c.in_ok-put_object.ensures ∙ told) in
    subst P (put_whole c.args.out.now c.put_object.new.out end
    (codes "<ds:Signature xmlns:ds=\"http://www.w3.org/2000/09/xmldsig#\" Id=\"" ∷ id ∷ codes "\">" ∷ written_octets (signed_info_nodes digest_of value draft)
    ∷ codes "<ds:SignatureValue></ds:SignatureValue>" ∷ written_octets (key_info_nodes draft) ∷ written_octets (object_nodes (digest (first_certificate draft)) draft) ∷ end ∷ [])
    (signature_nodes digest digest_of value draft) (ap (λ x. x ++ end) s7) (signature_octets digest digest_of value draft)) c.push_all-4.ensures.ok
