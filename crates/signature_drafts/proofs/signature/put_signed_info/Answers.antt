use Rattle.std.proofs.Common.{◌≡◌, ◌++◌, ◌∙◌, ℕ, List, [], ◌∷◌, OnOk, ap, subst, codes}
use Rattle.signature_model.specs.Fragments.{written_octets}
use Rattle.signature_model.specs.Prepared.{algorithm, last_reference, references_from}
use Rattle.signature_drafts.specs.Parts.{signed_info_nodes}
use Rattle.signature_drafts.proofs.PartOctets.{signed_info_octets}
use Rattle.signature_drafts.proofs.Written.{one_more, put_whole}
use Rattle.signature_drafts.proofs.signature.put_signed_info.Goals as goal

pub returns : goal.returns
returns c = λ digest digest_of value are.
    let P : List ℕ → Type 0 = λ xs. OnOk c.push_all-2.result (c.push_all-2.new.self ≡ xs) in
    let end : List ℕ = codes "</ds:SignedInfo>" in
    let draft = c.args.draft.now in
    let method = ap (λ x. c.push_all.new.self ++ written_octets (algorithm (codes "SignatureMethod") x)) c.method.ensures in
    let told = ap (λ x. c.put_references.new.out ++ written_octets (last_reference draft x)) (c.as_slice.ensures.value ∙ are.properties) in
    let s2 = one_more _ _ _ _ c.in_ok-push_all.ensures.ok (c.in_ok-put_method.ensures ∙ method) in
    let s3 = one_more _ _ _ _ s2 (c.in_ok-put_references.ensures digest_of are.references) in
    let s4 = one_more _ _ _ _ s3 (c.in_ok-put_last_reference.ensures ∙ told) in
    subst P (put_whole c.args.out.now c.put_last_reference.new.out end
    (codes "<ds:SignedInfo><ds:CanonicalizationMethod Algorithm=\"http://www.w3.org/2001/10/xml-exc-c14n#\"></ds:CanonicalizationMethod>" ∷ written_octets (algorithm (codes "SignatureMethod") draft.method)
    ∷ written_octets (references_from draft digest_of 1 draft.references) ∷ written_octets (last_reference draft value) ∷ end ∷ [])
    (signed_info_nodes digest_of value draft) (ap (λ x. x ++ end) s4) (signed_info_octets digest_of value draft)) c.push_all-2.ensures.ok
