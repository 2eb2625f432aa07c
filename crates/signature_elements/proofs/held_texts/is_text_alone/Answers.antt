use Rattle.std.proofs.Common.{◌≡◌, ℕ, suc, ◌++◌, ◌∷◌, [], length, true, false, ◌&&◌, subst, sym, ◌∙◌, ap}
use Rattle.doc_spans.specs.Rest.{rest}
use Rattle.doc_spans.specs.Seen.{NameBelow, path_in, document_in}
use Rattle.doc_spans.proofs.ChildSteps.{one_more}
use Rattle.doc_spans.proofs.Elements.{child_of}
use Rattle.signature_elements.specs.Holding.{is_text_at}
use Rattle.signature_elements.proofs.Texted.{alone_left, alone_step, none_alone_left, alone_whole}
use Rattle.signature_elements.proofs.held_texts.is_text_alone.Goals as goal

pub is_text-requires : goal.is_text-requires
is_text-requires c =
    (child_of c.args.doc (path_in c.args.doc c.args.node) (length c.loop-child.yielded) _ _ c.in-Some.child c.in-Some.ensures.steps c.loop-child.invariant.2).within

pub loop-child-preserved : goal.loop-child-preserved
loop-child-preserved c =
    let doc = c.args.doc in
    let i = length c.loop-child.yielded in
    let next = child_of doc (path_in doc c.args.node) i _ _ c.in-Some.child c.in-Some.ensures.steps c.loop-child.invariant.2 in
    let more : suc i ≡ length (c.loop-child.yielded ++ c.in-Some.child ∷ []) = one_more c.loop-child.yielded c.in-Some.child in
    let P : ℕ → Type 0 = λ n. NameBelow doc (path_in doc c.args.node) n (rest c.next.new.self) in
    let Q : ℕ → Type 0 = λ n. alone_left doc c.args.node n ≡ alone_left doc c.args.node 0 in
    let text : is_text_at (document_in doc) (path_in doc c.in-Some.child) ≡ true = sym c.is_text.ensures ∙ c.if-not-is_text.false in (
      tt,
      tt,
      subst P more next.later,
      subst Q more (sym (alone_step doc c.args.node c.in-Some.child i _ next ∙ ap (λ b. b && alone_left doc c.args.node (suc i)) text) ∙ c.loop-child.invariant.3),
    )

pub returns-then-not-is_text : goal.returns-then-not-is_text
returns-then-not-is_text c =
    let doc = c.args.doc in
    let i = length c.loop-child.yielded in
    let next = child_of doc (path_in doc c.args.node) i _ _ c.in-Some.child c.in-Some.ensures.steps c.loop-child.invariant.2 in
    let other : is_text_at (document_in doc) (path_in doc c.in-Some.child) ≡ false = sym c.is_text.ensures ∙ c.if-not-is_text.true in
    sym (alone_step doc c.args.node c.in-Some.child i _ next ∙ ap (λ b. b && alone_left doc c.args.node (suc i)) other) ∙ c.loop-child.invariant.3 ∙ alone_whole doc c.args.node c.requires

pub returns : goal.returns
returns c =
    sym (none_alone_left c.args.doc c.args.node (length c.loop-child.yielded) _ c.in-None.ensures.steps.0 c.loop-child.invariant.2)
    ∙ c.loop-child.invariant.3 ∙ alone_whole c.args.doc c.args.node c.requires
