use Rattle.std.proofs.Common.{length, ap, arith}
use Rattle.doc_spans.specs.Shown.{Shown}
use Rattle.doc_spans.proofs.Shows.{shown_many}
use Rattle.doc_spans.proofs.trees.Tree.len.Goals as goal

pub returns : goal.returns
returns c =
    let n = shown_many c.self.inside.rows.items in
    let e = ap (λ (s : Shown). length s.places) c.self.view_is in omega arith
