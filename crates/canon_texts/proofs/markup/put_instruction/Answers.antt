use Rattle.std.proofs.Common.{◌≡◌, ◌++◌, ◌∙◌, ap, ℕ, List, OnOk, subst}
use Rattle.doc_spans.specs.Pieces.{characters_left}
use Rattle.canon_texts.proofs.MarkupTexts.{instruction_written}
use Rattle.canon_texts.proofs.markup.put_instruction.Goals as goal

pub returns-clause-ok : goal.returns-clause-ok
returns-clause-ok c =
    let P : List ℕ → Type 0 = λ xs. OnOk c.push_all-3.result (c.push_all-3.new.self ≡ xs) in
    subst P
    (instruction_written c.args.out.now c.push_all.new.self c.push_all-2.new.self c.put_content.new.out c.args.target.now (characters_left c.args.content) c.utf8.target
    c.in_ok-push_all.ensures.ok
    (c.in_ok-push_all-2.ensures.ok ∙ ap (λ x. c.push_all.new.self ++ x) c.as_bytes.ensures.value)
    c.in_ok-put_content.ensures.ok)
    c.push_all-3.ensures.ok
