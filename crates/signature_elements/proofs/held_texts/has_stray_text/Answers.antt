use Rattle.std.proofs.Common.{◌≡◌, ℕ, suc, ◌++◌, ◌∷◌, [], length, true, false, ◌||◌, subst, sym, ◌∙◌, ap}
use Rattle.doc_spans.specs.Rest.{rest}
use Rattle.doc_spans.specs.Seen.{NameBelow, path_in, document_in}
use Rattle.doc_spans.proofs.ChildSteps.{one_more}
use Rattle.doc_spans.proofs.Elements.{child_of}
use Rattle.signature_elements.specs.Holding.{is_stray_at}
use Rattle.signature_elements.proofs.Texted.{stray_left, stray_step, no_stray_left, stray_whole}
use Rattle.signature_elements.proofs.held_texts.has_stray_text.Goals as goal

pub is_stray-requires : goal.is_stray-requires
is_stray-requires c =
    (child_of c.args.doc (path_in c.args.doc c.args.node) (length c.loop-child.yielded) _ _ c.in-Some.child c.in-Some.ensures.steps c.loop-child.invariant.2).within

pub loop-child-preserved : goal.loop-child-preserved
loop-child-preserved c =
    let doc = c.args.doc in
    let i = length c.loop-child.yielded in
    let next = child_of doc (path_in doc c.args.node) i _ _ c.in-Some.child c.in-Some.ensures.steps c.loop-child.invariant.2 in
    let more : suc i ≡ length (c.loop-child.yielded ++ c.in-Some.child ∷ []) = one_more c.loop-child.yielded c.in-Some.child in
    let P : ℕ → Type 0 = λ n. NameBelow doc (path_in doc c.args.node) n (rest c.next.new.self) in
    let Q : ℕ → Type 0 = λ n. stray_left doc c.args.node n ≡ stray_left doc c.args.node 0 in
    let white : is_stray_at (document_in doc) (path_in doc c.in-Some.child) ≡ false = sym c.is_stray.ensures ∙ c.if-is_stray.false in (
      tt,
      tt,
      subst P more next.later,
      subst Q more (sym (stray_step doc c.args.node c.in-Some.child i _ next ∙ ap (λ b. b || stray_left doc c.args.node (suc i)) white) ∙ c.loop-child.invariant.3),
    )

pub returns-then-is_stray : goal.returns-then-is_stray
returns-then-is_stray c =
    let doc = c.args.doc in
    let i = length c.loop-child.yielded in
    let next = child_of doc (path_in doc c.args.node) i _ _ c.in-Some.child c.in-Some.ensures.steps c.loop-child.invariant.2 in
    let stray : is_stray_at (document_in doc) (path_in doc c.in-Some.child) ≡ true = sym c.is_stray.ensures ∙ c.if-is_stray.true in
    sym (stray_step doc c.args.node c.in-Some.child i _ next ∙ ap (λ b. b || stray_left doc c.args.node (suc i)) stray) ∙ c.loop-child.invariant.3 ∙ stray_whole doc c.args.node c.requires

pub returns : goal.returns
returns c =
    sym (no_stray_left c.args.doc c.args.node (length c.loop-child.yielded) _ c.in-None.ensures.steps.0 c.loop-child.invariant.2)
    ∙ c.loop-child.invariant.3 ∙ stray_whole c.args.doc c.args.node c.requires
