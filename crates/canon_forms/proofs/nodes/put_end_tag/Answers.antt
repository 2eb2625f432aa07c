use Rattle.std.proofs.Common.{◌≡◌, ◌++◌, ◌∙◌, ap, ℕ, List, OnOk, subst}
use Rattle.canon_forms.proofs.ElementTexts.{end_written}
use Rattle.canon_forms.proofs.nodes.put_end_tag.Goals as goal

pub returns : goal.returns
returns c =
    let P : List ℕ → Type 0 = λ xs. OnOk c.push_all-3.result (c.push_all-3.new.self ≡ xs) in
    subst P
    (end_written c.args.out.now c.push_all.new.self c.push_all-2.new.self c.args.name.now c.utf8.name c.in_ok-push_all.ensures.ok
    (c.in_ok-push_all-2.ensures.ok ∙ ap (λ x. c.push_all.new.self ++ x) c.as_bytes.ensures.value))
    c.push_all-3.ensures.ok
