use Rattle.std.proofs.Common.{◌≡◌, ◌∙◌, sym, ℕ, List, OnOk, subst}
use Rattle.doc_spans.specs.Pieces.{characters_left}
use Rattle.canon_texts.proofs.MarkupTexts.{nothing_written, content_written}
use Rattle.canon_texts.proofs.markup.put_content.Goals as goal

pub returns-then-same-clause-ok : goal.returns-then-same-clause-ok
returns-then-same-clause-ok c = nothing_written c.args.out.now (characters_left c.args.content) (sym c.same.ensures ∙ c.if-same.true)

pub returns-clause-ok : goal.returns-clause-ok
returns-clause-ok c =
    let P : List ℕ → Type 0 = λ xs. OnOk c.put_pieces.result (c.put_pieces.new.out ≡ xs) in
    subst P (content_written c.args.out.now c.push_all.new.self (characters_left c.args.content) (sym c.same.ensures ∙ c.if-same.false) c.in_ok-push_all.ensures.ok) c.put_pieces.ensures.ok
