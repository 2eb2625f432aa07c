use Rattle.std.proofs.Common.{◌≡◌, ◌+◌, ◌≤◌, length, sym, ◌∙◌, ap, arith, inl, inr}
use Rattle.doc_spans.specs.Shown.{Shown, path_at}
use Rattle.doc_spans.specs.View.{none}
use Rattle.doc_spans.proofs.Numbered.{numbered_in}
use Rattle.doc_spans.proofs.Shows.{Begin, begin_next, begin_none, begin_top, shown_many, top_path, not_next, not_behind}
use Rattle.doc_spans.proofs.trees.Tree.first_child.Goals as goal
use Rattle.doc_spans.proofs.trees.Tree.first_child.Goals.{else-next-len-via-then-next-len+else-index-node, else-next-len-via-else-next-len}

next : (c : goal.Then-index-node) → Begin c.args.self.now c.args.node (c.args.node + 1)
next c = begin_next c.self.inside.rows.items c.args.self.now c.self.invariant c.self.view_is c.args.node (c.args.node + 1) c.index.result.now
    (omega arith) (omega arith) (omega arith) c.index.ensures c.if-index-node.true

pub returns-then-index-node-clause-children : goal.returns-then-index-node-clause-children
returns-then-index-node-clause-children c = (next c).0

pub returns-then-index-node-clause-child : goal.returns-then-index-node-clause-child
returns-then-index-node-clause-child c = (next c).1

no_child : (c : goal.Joined-else-next-len) → Begin c.args.self.now c.args.node none
no_child c = begin_none c.self.inside.rows.items c.args.self.now c.self.invariant c.self.view_is c.args.node (omega arith)
    (elim c.else-next-len.branch [
      | else-next-len-via-then-next-len+else-index-node w ↦
          not_next c.self.inside.rows.items c.args.node (c.args.node + 1) w.index.result.now (omega arith) (let h = w.if-next-len.true in omega arith) w.index.ensures w.if-index-node.false
      | else-next-len-via-else-next-len w ↦ not_behind c.self.inside.rows.items c.args.node (c.args.node + 1) (omega arith) (let h = w.if-next-len.false in omega arith)
    ])

pub returns-else-next-len-clause-children : goal.returns-else-next-len-clause-children
returns-else-next-len-clause-children c = (no_child c).0

pub returns-else-next-len-clause-child : goal.returns-else-next-len-clause-child
returns-else-next-len-clause-child c = (no_child c).1

pub returns-else-number-len-clause-child : goal.returns-else-number-len-clause-child
returns-else-number-len-clause-child c =
    let n = shown_many c.self.inside.rows.items in
    let e = ap (λ (s : Shown). length s.places) c.self.view_is in
    let past : length c.self.inside.rows.items ≤ c.args.node = let h = c.if-number-len.false in omega arith in
    let is : c.args.node ≡ none = elim c.requires [ inl h ↦ absurd (omega (arith, h, n, e, past)) | inr h ↦ h ] in
    (begin_top c.self.inside.rows.items c.args.self.now c.self.invariant c.self.view_is c.args.node is).1

pub returns-then-index-node-clause-top : goal.returns-then-index-node-clause-top
returns-then-index-node-clause-top c = ap (λ (s : Shown). path_at s none) (sym c.self.view_is) ∙ top_path c.self.inside.rows.items c.self.invariant

pub returns-else-next-len-clause-top : goal.returns-else-next-len-clause-top
returns-else-next-len-clause-top c = ap (λ (s : Shown). path_at s none) (sym c.self.view_is) ∙ top_path c.self.inside.rows.items c.self.invariant

pub returns-else-number-len-clause-top : goal.returns-else-number-len-clause-top
returns-else-number-len-clause-top c = ap (λ (s : Shown). path_at s none) (sym c.self.view_is) ∙ top_path c.self.inside.rows.items c.self.invariant

pub returns-then-index-node-clause-numbered : goal.returns-then-index-node-clause-numbered
returns-then-index-node-clause-numbered c = numbered_in c.self.inside.rows.items c.args.self.now c.self.invariant c.self.view_is c.args.node c.requires

pub returns-else-next-len-clause-numbered : goal.returns-else-next-len-clause-numbered
returns-else-next-len-clause-numbered c = numbered_in c.self.inside.rows.items c.args.self.now c.self.invariant c.self.view_is c.args.node c.requires

pub returns-else-number-len-clause-numbered : goal.returns-else-number-len-clause-numbered
returns-else-number-len-clause-numbered c = numbered_in c.self.inside.rows.items c.args.self.now c.self.invariant c.self.view_is c.args.node c.requires
