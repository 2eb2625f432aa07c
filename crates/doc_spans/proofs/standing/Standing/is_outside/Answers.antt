use Rattle.std.proofs.Common.{◌≡◌, ◌∙◌, sym, ap, nat_eq, vec_len, length, arith}
use Rattle.doc_spans.proofs.Tags.{tags_none}
use Rattle.doc_spans.proofs.standing.Standing.is_outside.Goals as goal

pub returns : goal.returns
returns c =
    let n : vec_len c.args.self.now.open.tags ≡ length c.args.self.now.open.tags.items = omega arith in
    c.is_empty.ensures ∙ ap (λ k. nat_eq k 0) n ∙ sym (tags_none c.args.self.now.open.tags.items)
