use Rattle.std.proofs.Common.{◌≡◌, ◌++◌, ◌∙◌, ℕ, List, [], ◌∷◌, OnOk, ap, subst, codes}
use Rattle.signature_model.specs.Fragments.{written_octets}
use Rattle.signature_drafts.specs.Parts.{object_nodes}
use Rattle.signature_drafts.specs.Properties.{properties_with}
use Rattle.signature_drafts.proofs.PartOctets.{object_octets}
use Rattle.signature_drafts.proofs.Written.{quoted, one_more, put_whole}
use Rattle.signature_drafts.proofs.signature.put_object.Goals as goal

pub returns : goal.returns
returns c =
    let P : List ℕ → Type 0 = λ xs. OnOk c.push_all-3.result (c.push_all-3.new.self ≡ xs) in
    let end : List ℕ = codes "</xades:QualifyingProperties></ds:Object>" in
    let id : List ℕ = quoted c.args.draft.now.id in
    let named = ap (λ x. c.push_all.new.self ++ quoted x) c.id.ensures in
    let s2 = one_more _ _ _ _ c.in_ok-push_all.ensures.ok (c.in_ok-put_quoted.ensures ∙ named) in
    let s3 = one_more _ _ _ _ s2 c.in_ok-push_all-2.ensures.ok in
    let s4 = one_more _ _ _ _ s3 c.in_ok-put_properties.ensures in
    subst P (put_whole c.args.out.now c.put_properties.new.out end
    (codes "<ds:Object><xades:QualifyingProperties xmlns:xades=\"http://uri.etsi.org/01903/v1.3.2#\" Target=\"#" ∷ id ∷ codes "\">" ∷ written_octets (properties_with [] [] c.args.digest.now c.args.draft.now) ∷ end ∷ [])
    (object_nodes c.args.digest.now c.args.draft.now) (ap (λ x. x ++ end) s4) (object_octets c.args.digest.now c.args.draft.now)) c.push_all-3.ensures.ok
