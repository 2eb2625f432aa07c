use Rattle.std.proofs.Common.{◌≡◌, ◌++◌, ◌∙◌, ℕ, List, [], ◌∷◌, OnOk, ap, subst, codes}
use Rattle.std.specs.Fmt.{decimal}
use Rattle.std.specs.Str.{chars}
use Rattle.signature_model.specs.Chains.{place_named}
use Rattle.signature_model.specs.Fragments.{written_octets}
use Rattle.signature_model.specs.Prepared.{digest_nodes, reference_nodes, transform_nodes}
use Rattle.signature_drafts.proofs.ReferenceOctets.{reference_octets}
use Rattle.signature_drafts.proofs.Written.{quoted, one_more, put_whole}
use Rattle.signature_drafts.proofs.references.put_reference.Goals as goal

pub returns : goal.returns
returns c =
    let P : List ℕ → Type 0 = λ xs. OnOk c.push_all-5.result (c.push_all-5.new.self ≡ xs) in
    let uri : List ℕ = chars c.args.uri.now in
    let end : List ℕ = codes "</ds:Reference>" in
    let id : List ℕ = quoted c.args.draft.now.id in
    let named = ap (λ x. c.push_all.new.self ++ quoted x) c.id.ensures in
    let kind = ap (λ x. c.put_transforms.new.out ++ written_octets (digest_nodes x c.args.digest.now)) c.digest.ensures in
    let s2 = one_more _ _ _ _ c.in_ok-push_all.ensures.ok (c.in_ok-put_quoted.ensures ∙ named) in
    let s3 = one_more _ _ _ _ s2 c.in_ok-push_all-2.ensures.ok in
    let s4 = one_more _ _ _ _ s3 c.in_ok-put_number.ensures in
    let s5 = one_more _ _ _ _ s4 c.in_ok-push_all-3.ensures.ok in
    let s6 = one_more _ _ _ _ s5 c.in_ok-put_quoted-2.ensures in
    let s7 = one_more _ _ _ _ s6 c.in_ok-push_all-4.ensures.ok in
    let s8 = one_more _ _ _ _ s7 c.in_ok-put_transforms.ensures in
    let s9 = one_more _ _ _ _ s8 (c.in_ok-put_digest.ensures ∙ kind) in
    subst P (put_whole c.args.out.now c.put_digest.new.out end
    (codes "<ds:Reference Id=\"" ∷ id ∷ codes "-r" ∷ decimal c.args.k ∷ codes "\" URI=\"" ∷ quoted uri ∷ codes "\">" ∷ written_octets (transform_nodes (place_named uri))
    ∷ written_octets (digest_nodes c.args.draft.now.digest c.args.digest.now) ∷ end ∷ [])
    (reference_nodes c.args.draft.now c.args.k uri c.args.digest.now) (ap (λ x. x ++ end) s9) (reference_octets c.args.draft.now c.args.k uri c.args.digest.now)) c.push_all-5.ensures.ok
