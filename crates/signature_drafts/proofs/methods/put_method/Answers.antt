use Rattle.std.proofs.Common.{◌≡◌, ◌++◌, ℕ, List, [], ◌∷◌, OnOk, ap, subst, codes}
use Rattle.std.specs.Str.{chars}
use Rattle.signature_model.specs.Prepared.{algorithm}
use Rattle.signature_drafts.proofs.ReferenceOctets.{method_octets}
use Rattle.signature_drafts.proofs.Written.{quoted, one_more, put_whole}
use Rattle.signature_drafts.proofs.methods.put_method.Goals as goal

pub returns : goal.returns
returns c =
    let P : List ℕ → Type 0 = λ xs. OnOk c.push_all-2.result (c.push_all-2.new.self ≡ xs) in
    let uri : List ℕ = chars c.args.uri.now in
    let end : List ℕ = codes "\"></ds:SignatureMethod>" in
    let s = one_more _ _ _ _ c.in_ok-push_all.ensures.ok c.in_ok-put_quoted.ensures in
    subst P (put_whole c.args.out.now c.put_quoted.new.out end (codes "<ds:SignatureMethod Algorithm=\"" ∷ quoted uri ∷ end ∷ []) (algorithm (codes "SignatureMethod") uri) (ap (λ x. x ++ end) s) (method_octets uri)) c.push_all-2.ensures.ok
