use Rattle.std.proofs.Common.{◌≡◌, ◌++◌, ◌∙◌, ℕ, List, [], ◌∷◌, OnOk, ap, subst, codes}
use Rattle.document_model.specs.Items.{Attribute}
use Rattle.signature_model.specs.Fragments.{written_octets, encoded}
use Rattle.signature_model.specs.Vocabulary.{digest_name}
use Rattle.signature_elements.specs.DigestKinds.{kind_in}
use Rattle.signature_drafts.specs.Properties.{attributes_octets, digest_with}
use Rattle.signature_drafts.specs.Standing.{declared_ds}
use Rattle.signature_drafts.proofs.ReferenceOctets.{digest_octets, uri_named}
use Rattle.signature_drafts.proofs.Written.{quoted, one_more, put_whole}
use Rattle.signature_drafts.proofs.methods.put_digest.Goals as goal

pub returns : goal.returns
returns c =
    let P : List ℕ → Type 0 = λ xs. OnOk c.push_all-8.result (c.push_all-8.new.self ≡ xs) in
    let ds : List Attribute = declared_ds c.args.standing in
    let d : List ℕ = attributes_octets ds in
    let name : List ℕ = digest_name (kind_in c.args.kind) in
    let value : List ℕ = c.args.digest.now in
    let end : List ℕ = codes "</ds:DigestValue>" in
    let told : c.as_bytes.result.now ≡ d = c.as_bytes.ensures.value ∙ c.ds.ensures in
    let again : c.as_bytes-3.result.now ≡ d = c.as_bytes-3.ensures.value ∙ c.ds-2.ensures in
    let named : c.as_bytes-2.result.now ≡ quoted name = c.as_bytes-2.ensures.value ∙ c.uri.ensures ∙ uri_named c.args.kind in
    let s2 = one_more _ _ _ _ c.in_ok-push_all.ensures.ok (c.in_ok-push_all-2.ensures.ok ∙ ap (λ x. c.push_all.new.self ++ x) told) in
    let s3 = one_more _ _ _ _ s2 c.in_ok-push_all-3.ensures.ok in
    let s4 = one_more _ _ _ _ s3 (c.in_ok-push_all-4.ensures.ok ∙ ap (λ x. c.push_all-3.new.self ++ x) named) in
    let s5 = one_more _ _ _ _ s4 c.in_ok-push_all-5.ensures.ok in
    let s6 = one_more _ _ _ _ s5 (c.in_ok-push_all-6.ensures.ok ∙ ap (λ x. c.push_all-5.new.self ++ x) again) in
    let s7 = one_more _ _ _ _ s6 c.in_ok-push_all-7.ensures.ok in
    let s8 = one_more _ _ _ _ s7 c.in_ok-put_base64.ensures in
    subst P (put_whole c.args.out.now c.put_base64.new.out end
    (codes "<ds:DigestMethod" ∷ d ∷ codes " Algorithm=\"" ∷ quoted name ∷ codes "\"></ds:DigestMethod><ds:DigestValue" ∷ d ∷ codes ">" ∷ written_octets (encoded value) ∷ end ∷ [])
    (digest_with ds name value) (ap (λ x. x ++ end) s8) (digest_octets ds name value)) c.push_all-8.ensures.ok
