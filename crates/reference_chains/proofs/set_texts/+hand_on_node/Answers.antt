use Rattle.std.proofs.Common.{◌≡◌, ℕ, suc, ◌<◌, ◌++◌, ◌∷◌, [], length, Some, refl, subst, sym, ◌∙◌, ap}
use Rattle.std.specs.Prelude.{option_map}
use Rattle.document_model.specs.Tree.{Path}
use Rattle.doc_spans.specs.Rest.{rest}
use Rattle.doc_spans.specs.Seen.{NameBelow, path_in, node_in}
use Rattle.doc_spans.specs.Shown.{kind_of, outer_path}
use Rattle.doc_spans.specs.Sizes.{size_in}
use Rattle.doc_spans.proofs.ChildSteps.{one_more}
use Rattle.doc_spans.proofs.Elements.{child_of}
use Rattle.doc_spans.proofs.Shows.{outer_more}
use Rattle.node_sets.specs.Sets.{set_in, doc_in}
use Rattle.canon_forms.specs.Writing.{IsReached}
use Rattle.reference_chains.specs.SetTexts.{text_in}
use Rattle.reference_chains.proofs.HeldTexts.{left, child_kept, child_removed, child_smaller, reached_child, none_left, other_node, taken_further}
use Rattle.reference_chains.proofs.set_texts.+hand_on_node.Goals as goal

pub hand_on_node-requires : goal.hand_on_node-requires
hand_on_node-requires g t c κs within =
    let set = set_in c.args.set.now in
    let doc = doc_in c.args.set.now in
    let path = path_in doc c.args.node in
    let i = length c.loop-child.yielded in
    let next = child_of doc path i _ _ c.in-Some.child c.in-Some.ensures.steps c.loop-child.invariant.2 in
    let R : Path → Type 0 = λ p. IsReached set p in
    let outer : IsReached set (outer_path (path_in doc c.in-Some.child)) = subst R (sym (ap outer_path next.at ∙ outer_more path i)) c.requires.reached in
    let P : ℕ → Type 0 = λ n. size_in doc c.in-Some.child < n in (
      subst P c.decreases (child_smaller doc c.args.node c.in-Some.child i _ c.requires.has next),
      (within.0, (within.1, (next.within, reached_child set (path_in doc c.in-Some.child) next.node refl outer (sym c.is_removed.ensures ∙ c.if-not-is_removed.true)))),
    )

pub loop-child-preserved-in-Continue-1 : goal.loop-child-preserved-in-Continue-1
loop-child-preserved-in-Continue-1 g t c =
    let set = set_in c.args.set.now in
    let doc = doc_in c.args.set.now in
    let path = path_in doc c.args.node in
    let i = length c.loop-child.yielded in
    let next = child_of doc path i _ _ c.in-Some.child c.in-Some.ensures.steps c.loop-child.invariant.2 in
    let more : suc i ≡ length (c.loop-child.yielded ++ c.in-Some.child ∷ []) = one_more c.loop-child.yielded c.in-Some.child in
    let R : Path → Type 0 = λ p. IsReached set p in
    let outer : IsReached set (outer_path (path_in doc c.in-Some.child)) = subst R (sym (ap outer_path next.at ∙ outer_more path i)) c.requires.reached in
    let P : ℕ → Type 0 = λ n. NameBelow doc path n (rest c.next.new.self) in
    let Q : ℕ → Type 0 = λ n. g.T.TakesText.after c.hand_on_node.new.taker (left set doc path n) ≡ g.T.TakesText.after c.args.taker.now (left set doc path 0) in (
      tt,
      tt,
      subst P more next.later,
      subst Q more (taken_further g.T.TakesText.after c.loop-child.taker c.hand_on_node.new.taker (g.T.TakesText.after c.args.taker.now (left set doc path 0)) (left set doc path i)
          (text_in c.args.set.now c.in-Some.child) (left set doc path (suc i)) g.T.TakesText.joined c.in_ok-hand_on_node-in_default.ensures
          (child_kept set doc path i c.in-Some.child _ next refl outer (sym c.is_removed.ensures ∙ c.if-not-is_removed.true)) c.loop-child.invariant.3),
    )

pub loop-child-preserved : goal.loop-child-preserved
loop-child-preserved g t c =
    let set = set_in c.args.set.now in
    let doc = doc_in c.args.set.now in
    let path = path_in doc c.args.node in
    let i = length c.loop-child.yielded in
    let next = child_of doc path i _ _ c.in-Some.child c.in-Some.ensures.steps c.loop-child.invariant.2 in
    let more : suc i ≡ length (c.loop-child.yielded ++ c.in-Some.child ∷ []) = one_more c.loop-child.yielded c.in-Some.child in
    let R : Path → Type 0 = λ p. IsReached set p in
    let outer : IsReached set (outer_path (path_in doc c.in-Some.child)) = subst R (sym (ap outer_path next.at ∙ outer_more path i)) c.requires.reached in
    let P : ℕ → Type 0 = λ n. NameBelow doc path n (rest c.next.new.self) in
    let Q : ℕ → Type 0 = λ n. g.T.TakesText.after c.loop-child.taker (left set doc path n) ≡ g.T.TakesText.after c.args.taker.now (left set doc path 0) in (
      tt,
      tt,
      subst P more next.later,
      subst Q more (ap (g.T.TakesText.after c.loop-child.taker) (sym (child_removed set doc path i c.in-Some.child _ next refl outer (sym c.is_removed.ensures ∙ c.if-not-is_removed.false)))
          ∙ c.loop-child.invariant.3),
    )

pub returns-in-None : goal.returns-in-None
returns-in-None g t c =
    let set = set_in c.args.set.now in
    let doc = doc_in c.args.set.now in
    let kind : option_map kind_of (node_in doc c.args.node) ≡ Some c.kind.result = ap (λ d. option_map kind_of (node_in d c.args.node)) (sym c.doc-doc.ensures) ∙ c.kind.ensures in
    sym (g.T.TakesText.stays c.loop-child.taker)
    ∙ ap (g.T.TakesText.after c.loop-child.taker) (sym (none_left set doc (path_in doc c.args.node) (length c.loop-child.yielded) _ c.in-None.ensures.steps.0 c.loop-child.invariant.2))
    ∙ c.loop-child.invariant.3
    ∙ ap (g.T.TakesText.after c.args.taker.now) (other_node set doc c.args.node c.kind.result refl c.requires.has kind c.in_default.not-Text)
