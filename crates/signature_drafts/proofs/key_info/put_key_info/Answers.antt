use Rattle.std.proofs.Common.{◌≡◌, ◌++◌, ℕ, List, [], ◌∷◌, OnOk, ap, subst, codes}
use Rattle.signature_model.specs.Fragments.{written_octets}
use Rattle.signature_drafts.specs.Parts.{certificate_nodes, key_info_nodes}
use Rattle.signature_drafts.proofs.PartOctets.{key_info_octets}
use Rattle.signature_drafts.proofs.Written.{one_more, put_whole}
use Rattle.signature_drafts.proofs.key_info.put_key_info.Goals as goal

pub returns : goal.returns
returns c =
    let P : List ℕ → Type 0 = λ xs. OnOk c.push_all-2.result (c.push_all-2.new.self ≡ xs) in
    let end : List ℕ = codes "</ds:X509Data></ds:KeyInfo>" in
    let s2 = one_more _ _ _ _ c.in_ok-push_all.ensures.ok c.in_ok-put_certificates.ensures in
    subst P (put_whole c.args.out.now c.put_certificates.new.out end (codes "<ds:KeyInfo><ds:X509Data>" ∷ written_octets (certificate_nodes c.args.draft.now.certificates) ∷ end ∷ [])
    (key_info_nodes c.args.draft.now) (ap (λ x. x ++ end) s2) (key_info_octets c.args.draft.now)) c.push_all-2.ensures.ok
