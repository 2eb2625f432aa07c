use Rattle.std.proofs.Common.{◌≡◌, ℕ, suc, ◌<◌, ◌++◌, ◌∷◌, [], length, true, false, cond, subst, sym, ◌∙◌, ap}
use Rattle.doc_spans.specs.Rest.{rest}
use Rattle.doc_spans.specs.Seen.{NameBelow, path_in, node_in}
use Rattle.doc_spans.specs.Sizes.{size_in}
use Rattle.doc_spans.proofs.ChildSteps.{one_more}
use Rattle.doc_spans.proofs.Elements.{element_of, child_of, smaller}
use Rattle.signature_model.specs.Spots.{is_called}
use Rattle.signature_elements.specs.Counts.{tally_in, with_more}
use Rattle.signature_elements.specs.Standing.{spot_of, IsElement}
use Rattle.signature_elements.proofs.Named.{tagged, element_from}
use Rattle.signature_elements.proofs.Tallies.{signature, signatures_left, name_text, at_element, at_other, next_signatures, all_signatures}
use Rattle.signature_elements.proofs.counting.+add_node.Goals as goal

pub returns-then-not-is_element-clause-tally : goal.returns-then-not-is_element-clause-tally
returns-then-not-is_element-clause-tally t c =
    ap (λ spots. with_more spots (tally_in c.args.doc c.args.found.now)) (sym (at_other c.args.doc c.args.node (sym c.is_element.ensures ∙ c.if-not-is_element.true)))

pub is_called-requires : goal.is_called-requires
is_called-requires t c = (c.requires.0, element_from (node_in c.args.doc c.args.node) (sym c.is_element.ensures ∙ c.if-not-is_element.false))

pub with_one-requires : goal.with_one-requires
with_one-requires t c = (c.requires.0, element_from (node_in c.args.doc c.args.node) (sym c.is_element.ensures ∙ c.if-not-is_element.false))

pub returns-then-is_called-clause-tally : goal.returns-then-is_called-clause-tally
returns-then-is_called-clause-tally t c =
    let doc = c.args.doc in
    let node = c.args.node in
    let element : IsElement doc node = element_from (node_in doc node) (sym c.is_element.ensures ∙ c.if-not-is_element.false) in
    let called : is_called signature (spot_of doc node) ≡ true =
    ap (λ name. is_called name (spot_of doc node)) (sym (c.ds.ensures ∙ name_text)) ∙ sym c.is_called.ensures ∙ c.if-is_called.true in
    c.with_one.ensures.tally
    ∙ ap (λ spots. with_more spots (tally_in doc c.args.found.now))
    (sym (at_element doc node element ∙ ap (λ b. cond b (spot_of doc node ∷ []) (signatures_left doc (path_in doc node) 0)) called))

pub add_node-requires : goal.add_node-requires
add_node-requires t c =
    let doc = c.args.doc in
    let next = child_of doc (path_in doc c.args.node) (length c.loop-child.yielded) _ _ c.in-Some.child c.in-Some.ensures.steps c.loop-child.invariant.2 in
    let element : IsElement doc c.args.node = element_from (node_in doc c.args.node) (sym c.is_element.ensures ∙ c.if-not-is_element.false) in
    let tag = tagged doc c.args.node element in
    let less : size_in doc c.in-Some.child < size_in doc c.args.node =
    smaller doc c.args.node c.in-Some.child (length c.loop-child.yielded) _ tag.tag (element_of (node_in doc c.args.node) tag.tag tag.is) next in
    let P : ℕ → Type 0 = λ n. size_in doc c.in-Some.child < n in
    (subst P c.decreases less, (next.within, c.loop-child.invariant.3))

pub loop-child-preserved : goal.loop-child-preserved
loop-child-preserved t c =
    let doc = c.args.doc in
    let i = length c.loop-child.yielded in
    let path = path_in doc c.args.node in
    let now = tally_in doc c.add_node.new.found in
    let start = with_more (signatures_left doc path 0) (tally_in doc c.args.found.now) in
    let next = child_of doc path i _ _ c.in-Some.child c.in-Some.ensures.steps c.loop-child.invariant.2 in
    let more : suc i ≡ length (c.loop-child.yielded ++ c.in-Some.child ∷ []) = one_more c.loop-child.yielded c.in-Some.child in
    let P : ℕ → Type 0 = λ n. NameBelow doc path n (rest c.next.new.self) in
    let Q : ℕ → Type 0 = λ n. with_more (signatures_left doc path n) now ≡ start in (
      tt,
      tt,
      subst P more next.later,
      c.add_node.ensures.there,
      subst Q more (next_signatures doc path i c.in-Some.child _ (tally_in doc c.loop-child.found) now start next c.add_node.ensures.tally c.loop-child.invariant.4),
    )

pub returns-clause-tally : goal.returns-clause-tally
returns-clause-tally t c =
    let doc = c.args.doc in
    let node = c.args.node in
    let path = path_in doc node in
    let now = tally_in doc c.loop-child.found in
    let start = with_more (signatures_left doc path 0) (tally_in doc c.args.found.now) in
    let element : IsElement doc node = element_from (node_in doc node) (sym c.is_element.ensures ∙ c.if-not-is_element.false) in
    let called : is_called signature (spot_of doc node) ≡ false =
    ap (λ name. is_called name (spot_of doc node)) (sym (c.ds.ensures ∙ name_text)) ∙ sym c.is_called.ensures ∙ c.if-is_called.false in
    all_signatures doc path (length c.loop-child.yielded) _ now start c.in-None.ensures.steps.0 c.loop-child.invariant.2 c.loop-child.invariant.4
    ∙ ap (λ spots. with_more spots (tally_in doc c.args.found.now))
    (sym (at_element doc node element ∙ ap (λ b. cond b (spot_of doc node ∷ []) (signatures_left doc path 0)) called))
