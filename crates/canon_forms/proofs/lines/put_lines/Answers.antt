use Rattle.std.proofs.Common.{◌≡◌, ℕ, suc, Bool, ◌||◌, [], ◌++◌, ◌∷◌, length, true, false, subst, sym, ◌∙◌, ap}
use Rattle.std.proofs.lemmas.List.{append-nil}
use Rattle.doc_spans.specs.Rest.{rest}
use Rattle.doc_spans.specs.Seen.{NameBelow}
use Rattle.doc_spans.proofs.ChildSteps.{one_more}
use Rattle.doc_spans.proofs.Elements.{child_of}
use Rattle.canon_forms.specs.Walks.{doc_of, element_in}
use Rattle.canon_forms.proofs.ChildNodes.{lines_left, line_written, no_line_left}
use Rattle.canon_forms.proofs.lines.put_lines.Goals as goal

or_true : (b c : Bool) → b ≡ true → (b || c) ≡ b
or_true b c e = ap (λ x. x || c) e ∙ sym e

pub loop-node-preserved-then-behind : goal.loop-node-preserved-then-behind
loop-node-preserved-then-behind c =
    let walk = c.args.walk.now in
    let i = length c.loop-node.yielded in
    let b = c.loop-node.behind in
    let next = child_of (doc_of walk) [] i _ _ c.in-Some.node c.in-Some.ensures.steps c.loop-node.invariant.2 in
    let more : suc i ≡ length (c.loop-node.yielded ++ c.in-Some.node ∷ []) = one_more c.loop-node.yielded c.in-Some.node in
    let P : ℕ → Type 0 = λ n. NameBelow (doc_of walk) [] n (rest c.next.new.self) in
    let Q : ℕ → Type 0 = λ n. c.put_top.new.out ++ lines_left walk b n ≡ c.args.out.now ++ lines_left walk false 0 in
    let R : Bool → Type 0 = λ b. c.put_top.new.out ++ lines_left walk b (suc i) ≡ c.args.out.now ++ lines_left walk false 0 in (
      tt,
      tt,
      subst P more next.later,
      c.in_ok-put_top.ensures.around ∙ c.loop-node.invariant.3,
      subst Q more (subst R (or_true b (element_in (doc_of walk) c.in-Some.node) c.if-behind.true)
          (line_written walk b i c.in-Some.node _ c.loop-node.out c.put_top.new.out _ next c.in_ok-put_top.ensures.written c.loop-node.invariant.4)),
    )

pub loop-node-preserved : goal.loop-node-preserved
loop-node-preserved c =
    let walk = c.args.walk.now in
    let i = length c.loop-node.yielded in
    let b = c.loop-node.behind in
    let next = child_of (doc_of walk) [] i _ _ c.in-Some.node c.in-Some.ensures.steps c.loop-node.invariant.2 in
    let more : suc i ≡ length (c.loop-node.yielded ++ c.in-Some.node ∷ []) = one_more c.loop-node.yielded c.in-Some.node in
    let P : ℕ → Type 0 = λ n. NameBelow (doc_of walk) [] n (rest c.next.new.self) in
    let Q : ℕ → Type 0 = λ n. c.put_top.new.out ++ lines_left walk c.is_element-behind.result n ≡ c.args.out.now ++ lines_left walk false 0 in
    let R : Bool → Type 0 = λ b. c.put_top.new.out ++ lines_left walk b (suc i) ≡ c.args.out.now ++ lines_left walk false 0 in
    let now : (b || element_in (doc_of walk) c.in-Some.node) ≡ c.is_element-behind.result =
    ap (λ x. x || element_in (doc_of walk) c.in-Some.node) c.if-behind.false ∙ ap (λ doc. element_in doc c.in-Some.node) (sym c.doc-doc.ensures) ∙ sym c.is_element-behind.ensures in (
      tt,
      tt,
      subst P more next.later,
      c.in_ok-put_top.ensures.around ∙ c.loop-node.invariant.3,
      subst Q more (subst R now
          (line_written walk b i c.in-Some.node _ c.loop-node.out c.put_top.new.out _ next c.in_ok-put_top.ensures.written c.loop-node.invariant.4)),
    )

pub returns : goal.returns
returns c =
    let walk = c.args.walk.now in
    let none = no_line_left walk c.loop-node.behind (length c.loop-node.yielded) _ c.in-None.ensures.steps.0 c.loop-node.invariant.2 in
    sym (append-nil c.loop-node.out) ∙ sym (ap (λ x. c.loop-node.out ++ x) none) ∙ c.loop-node.invariant.4
