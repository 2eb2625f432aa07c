use Rattle.std.proofs.Common.{◌≡◌, ◌++◌, ◌∙◌, ℕ, List, [], ◌∷◌, OnOk, ap, subst, codes}
use Rattle.std.specs.Fmt.{decimal}
use Rattle.std.specs.Str.{chars}
use Rattle.signature_model.specs.Chains.{place_named}
use Rattle.signature_model.specs.Prepared.{format_nodes, mime_type}
use Rattle.signature_drafts.proofs.PropertyOctets.{format_octets}
use Rattle.signature_drafts.proofs.Written.{quoted, one_more, put_whole}
use Rattle.signature_drafts.proofs.properties.put_format.Goals as goal

pub returns : goal.returns
returns c =
    let P : List ℕ → Type 0 = λ xs. OnOk c.push_all-5.result (c.push_all-5.new.self ≡ xs) in
    let uri : List ℕ = chars c.args.uri.now in
    let end : List ℕ = codes "</xades:MimeType></xades:DataObjectFormat>" in
    let id : List ℕ = quoted c.args.draft.now.id in
    let named = ap (λ x. c.push_all.new.self ++ quoted x) c.id.ensures in
    let media : c.as_bytes.result.now ≡ mime_type (place_named uri) = c.as_bytes.ensures.value ∙ c.media_type.ensures in
    let s2 = one_more _ _ _ _ c.in_ok-push_all.ensures.ok (c.in_ok-put_quoted.ensures ∙ named) in
    let s3 = one_more _ _ _ _ s2 c.in_ok-push_all-2.ensures.ok in
    let s4 = one_more _ _ _ _ s3 c.in_ok-put_number.ensures in
    let s5 = one_more _ _ _ _ s4 c.in_ok-push_all-3.ensures.ok in
    let s6 = one_more _ _ _ _ s5 (c.in_ok-push_all-4.ensures.ok ∙ ap (λ x. c.push_all-3.new.self ++ x) media) in
    subst P (put_whole c.args.out.now c.push_all-4.new.self end
    (codes "<xades:DataObjectFormat ObjectReference=\"#" ∷ id ∷ codes "-r" ∷ decimal c.args.k ∷ codes "\"><xades:MimeType>" ∷ mime_type (place_named uri) ∷ end ∷ [])
    (format_nodes c.args.draft.now c.args.k uri) (ap (λ x. x ++ end) s6) (format_octets c.args.draft.now c.args.k uri)) c.push_all-5.ensures.ok
