use Rattle.std.proofs.Common.{◌≡◌, ◌++◌, ◌∙◌, ℕ, List, OnOk, ap, arith, subst, sym}
use Rattle.signature_drafts.proofs.SimpleTexts.{encoded_text}
use Rattle.signature_drafts.proofs.pieces.put_base64.Goals as goal

pub returns-in-Ok : goal.returns-in-Ok
returns-in-Ok c =
    let P : List ℕ → Type 0 = λ xs. OnOk c.push_all.result (c.push_all.new.self ≡ xs) in
    subst P (ap (λ x. c.args.out.now ++ x) (c.as_bytes.ensures.value ∙ c.in-Ok.ensures.text ∙ sym (encoded_text c.args.octets.now (λ i. let f = c.type_inv.octets i in omega arith)))) c.push_all.ensures.ok
