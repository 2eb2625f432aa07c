use Rattle.std.proofs.Common.{length, ap, subst, arith}
use Rattle.doc_spans.specs.Shown.{Shown, ShowsRow}
use Rattle.doc_spans.proofs.Shows.{shown_many, shows_row, get_from}
use Rattle.doc_spans.proofs.trees.Tree.row.Goals as goal

pub index-requires : goal.index-requires
index-requires c =
    let n = shown_many c.self.inside.rows.items in
    let e = ap (λ (s : Shown). length s.places) c.self.view_is in
    let h = c.requires in omega arith

pub returns : goal.returns
returns c =
    let P : Shown → Type 0 = λ s. ShowsRow s c.args.number c.index.result.now in
    let n = shown_many c.self.inside.rows.items in
    let e = ap (λ (s : Shown). length s.places) c.self.view_is in
    let h = c.requires in
    subst P c.self.view_is (shows_row c.self.inside.rows.items c.self.invariant c.args.number c.index.result.now
    (get_from c.self.inside.rows.items c.args.number c.index.result.now (omega arith) c.index.ensures))
