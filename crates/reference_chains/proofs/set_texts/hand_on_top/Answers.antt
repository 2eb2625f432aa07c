use Rattle.std.proofs.Common.{◌≡◌, ℕ, suc, ◌++◌, ◌∷◌, [], length, subst, sym, ◌∙◌, ap}
use Rattle.doc_spans.specs.Rest.{rest}
use Rattle.doc_spans.specs.Seen.{NameBelow}
use Rattle.doc_spans.proofs.ChildSteps.{one_more}
use Rattle.doc_spans.proofs.Elements.{child_of}
use Rattle.node_sets.specs.Sets.{set_in, doc_in}
use Rattle.reference_chains.specs.SetTexts.{held_text_in}
use Rattle.reference_chains.proofs.HeldTexts.{left, top_step, none_left, taken_further}
use Rattle.reference_chains.proofs.set_texts.hand_on_top.Goals as goal

pub loop-node-preserved : goal.loop-node-preserved
loop-node-preserved g c =
    let set = set_in c.args.set.now in
    let doc = doc_in c.args.set.now in
    let i = length c.loop-node.yielded in
    let next = child_of doc [] i _ _ c.in-Some.node c.in-Some.ensures.steps c.loop-node.invariant.2 in
    let more : suc i ≡ length (c.loop-node.yielded ++ c.in-Some.node ∷ []) = one_more c.loop-node.yielded c.in-Some.node in
    let P : ℕ → Type 0 = λ n. NameBelow doc [] n (rest c.next.new.self) in
    let Q : ℕ → Type 0 = λ n. g.T.TakesText.after c.hand_on_held.new.taker (left set doc [] n) ≡ g.T.TakesText.after c.args.taker.now (left set doc [] 0) in (
      tt,
      tt,
      subst P more next.later,
      subst Q more (taken_further g.T.TakesText.after c.loop-node.taker c.hand_on_held.new.taker (g.T.TakesText.after c.args.taker.now (left set doc [] 0)) (left set doc [] i)
          (held_text_in c.args.set.now c.in-Some.node) (left set doc [] (suc i)) g.T.TakesText.joined c.in_ok-hand_on_held.ensures (top_step set doc i c.in-Some.node _ next) c.loop-node.invariant.3),
    )

pub returns : goal.returns
returns g c =
    sym (g.T.TakesText.stays c.loop-node.taker)
    ∙ ap (g.T.TakesText.after c.loop-node.taker) (sym (none_left (set_in c.args.set.now) (doc_in c.args.set.now) [] (length c.loop-node.yielded) _ c.in-None.ensures.steps.0 c.loop-node.invariant.2))
    ∙ c.loop-node.invariant.3
