use Rattle.std.proofs.Common.{◌∙◌, sym, subst, ap, length, get_or, arith}
use Rattle.document_model.specs.Insertion.{Extends}
use Rattle.insertions.specs.Placed.{RiseFrom}
use Rattle.insertions.proofs.WithAll.{next_within, none_left, all_extends}
use Rattle.insertions.proofs.pieces.apply.Goals as goal

pub slice_bounds-push_all-end : goal.slice_bounds-push_all-end
slice_bounds-push_all-end c =
    let same = c.deref-piece-items.ensures.value ∙ c.pieces.view_is in
    let size = ap length same in
    next_within c.loop-piece.from c.loop-piece.piece-index (length c.args.bytes.now) c.args.pieces.now c.piece-item.result
    (omega (arith, c.loop-piece-test.true, size)) (c.piece-item.is ∙ ap (λ xs. get_or xs c.loop-piece.piece-index c.piece-item.result) same)
    c.loop-piece.invariant.0 c.loop-piece.invariant.1

pub returns-clause-all : goal.returns-clause-all
returns-clause-all c =
    let same = c.deref-piece-items.ensures.value ∙ c.pieces.view_is in
    let size = ap length same in
    c.in_ok-push_all-3.ensures.ok
    ∙ none_left c.loop-piece.from c.loop-piece.piece-index c.args.pieces.now c.args.bytes.now c.loop-piece.new
    (omega (arith, c.loop-piece-test.false, size)) (subst (RiseFrom 0) c.pieces.view_is c.pieces.inside.rise) c.requires c.loop-piece.invariant.2

pub returns-clause-adds : goal.returns-clause-adds
returns-clause-adds c = subst (Extends c.args.bytes.now) (sym (returns-clause-all c)) (all_extends c.args.pieces.now c.args.bytes.now)
