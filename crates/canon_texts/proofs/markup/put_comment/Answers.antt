use Rattle.std.proofs.Common.{◌≡◌, ℕ, List, OnOk, subst}
use Rattle.doc_spans.specs.Pieces.{characters_left}
use Rattle.canon_texts.proofs.MarkupTexts.{comment_written}
use Rattle.canon_texts.proofs.markup.put_comment.Goals as goal

pub returns-clause-ok : goal.returns-clause-ok
returns-clause-ok c =
    let P : List ℕ → Type 0 = λ xs. OnOk c.push_all-2.result (c.push_all-2.new.self ≡ xs) in
    subst P (comment_written c.args.out.now c.push_all.new.self c.put_pieces.new.out (characters_left c.args.pieces) c.in_ok-push_all.ensures.ok c.in_ok-put_pieces.ensures.ok) c.push_all-2.ensures.ok
