use Rattle.std.proofs.Common.{◌≡◌, ◌++◌, ℕ, List, [], ◌∷◌, OnOk, ap, subst, codes}
use Rattle.signature_model.specs.Fragments.{written_octets, encoded}
use Rattle.signature_drafts.specs.Parts.{certificate_nodes}
use Rattle.signature_drafts.proofs.PartOctets.{certificate_octets}
use Rattle.signature_drafts.proofs.Written.{one_more, put_whole}
use Rattle.signature_drafts.proofs.key_info.put_certificate.Goals as goal

pub returns : goal.returns
returns c =
    let P : List ℕ → Type 0 = λ xs. OnOk c.push_all-2.result (c.push_all-2.new.self ≡ xs) in
    let end : List ℕ = codes "</ds:X509Certificate>" in
    let s2 = one_more _ _ _ _ c.in_ok-push_all.ensures.ok c.in_ok-put_base64.ensures in
    subst P (put_whole c.args.out.now c.put_base64.new.out end (codes "<ds:X509Certificate>" ∷ written_octets (encoded c.args.octets.now) ∷ end ∷ [])
    (certificate_nodes (c.args.octets.now ∷ [])) (ap (λ x. x ++ end) s2) (certificate_octets c.args.octets.now)) c.push_all-2.ensures.ok
