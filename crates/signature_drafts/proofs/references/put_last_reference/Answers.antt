use Rattle.std.proofs.Common.{◌≡◌, ◌++◌, ◌∙◌, ℕ, List, [], ◌∷◌, OnOk, ap, subst, codes}
use Rattle.signature_model.specs.Fragments.{written_octets}
use Rattle.signature_model.specs.Prepared.{digest_nodes, last_reference}
use Rattle.signature_drafts.proofs.ReferenceOctets.{last_octets}
use Rattle.signature_drafts.proofs.Written.{quoted, one_more, put_whole}
use Rattle.signature_drafts.proofs.references.put_last_reference.Goals as goal

pub returns : goal.returns
returns c =
    let P : List ℕ → Type 0 = λ xs. OnOk c.push_all-3.result (c.push_all-3.new.self ≡ xs) in
    let end : List ℕ = codes "</ds:Reference>" in
    let id : List ℕ = quoted c.args.draft.now.id in
    let named = ap (λ x. c.push_all.new.self ++ quoted x) c.id.ensures in
    let kind = ap (λ x. c.push_all-2.new.self ++ written_octets (digest_nodes x c.args.digest.now)) c.digest.ensures in
    let s2 = one_more _ _ _ _ c.in_ok-push_all.ensures.ok (c.in_ok-put_quoted.ensures ∙ named) in
    let s3 = one_more _ _ _ _ s2 c.in_ok-push_all-2.ensures.ok in
    let s4 = one_more _ _ _ _ s3 (c.in_ok-put_digest.ensures ∙ kind) in
    subst P (put_whole c.args.out.now c.put_digest.new.out end
    (codes "<ds:Reference Type=\"http://uri.etsi.org/01903#SignedProperties\" URI=\"#" ∷ id
    ∷ codes "-sp\"><ds:Transforms><ds:Transform Algorithm=\"http://www.w3.org/2001/10/xml-exc-c14n#\"></ds:Transform></ds:Transforms>"
    ∷ written_octets (digest_nodes c.args.draft.now.digest c.args.digest.now) ∷ end ∷ [])
    (last_reference c.args.draft.now c.args.digest.now) (ap (λ x. x ++ end) s4) (last_octets c.args.draft.now c.args.digest.now)) c.push_all-3.ensures.ok
