use Rattle.std.proofs.Common.{◌≡◌, ℕ, suc, List, [], ◌++◌, ◌∷◌, length, subst}
use Rattle.doc_spans.specs.Rest.{rest}
use Rattle.doc_spans.specs.Roots.{NoElementBefore}
use Rattle.doc_spans.specs.Seen.{NameBelow, document_in}
use Rattle.doc_spans.proofs.ChildSteps.{next_child, one_more}
use Rattle.doc_spans.proofs.Roots.{found_root, passed_more}
use Rattle.doc_spans.proofs.documents.Doc.root.Goals as goal

pub loop-node-preserved : goal.loop-node-preserved
loop-node-preserved c =
    let i = length c.loop-node.yielded in
    let R : List ℕ → Type 0 = NameBelow c.args.self [] i in
    let next = next_child c.args.self [] i c.in-Some.node.0 _ (subst R c.in-Some.ensures.steps c.loop-node.invariant.2) in
    let more : suc i ≡ length (c.loop-node.yielded ++ c.in-Some.node ∷ []) = one_more c.loop-node.yielded c.in-Some.node in
    let P : ℕ → Type 0 = λ n. NameBelow c.args.self [] n (rest c.next.new.self) in
    let Q : ℕ → Type 0 = λ n. NoElementBefore n (document_in c.args.self) in
    (tt, tt, subst P more next.later, subst Q more (passed_more c.args.self i c.in-Some.node.0 _ c.kind.result next c.kind.ensures c.in_default.not-Element c.loop-node.invariant.3))

pub unreachable-requires : goal.unreachable-requires
unreachable-requires c = found_root c.args.self (length c.loop-node.yielded) _ c.in-None.ensures.steps.0 c.loop-node.invariant.2 c.loop-node.invariant.3

pub returns-in-Element-clause-first : goal.returns-in-Element-clause-first
returns-in-Element-clause-first c =
    let i = length c.loop-node.yielded in
    let R : List ℕ → Type 0 = NameBelow c.args.self [] i in
    let next = next_child c.args.self [] i c.in-Some.node.0 _ (subst R c.in-Some.ensures.steps c.loop-node.invariant.2) in
    (i, next.at, c.loop-node.invariant.3)
