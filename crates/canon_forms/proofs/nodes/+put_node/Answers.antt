use Rattle.std.proofs.Common.{◌≡◌, ℕ, suc, ◌<◌, List, ◌++◌, ◌∷◌, [], length, Some, OnOk, subst, sym, ◌∙◌, ap}
use Rattle.document_model.specs.Tree.{Path}
use Rattle.document_model.specs.Scopes.{Tag}
use Rattle.document_model.specs.Canonical.{Around, inside}
use Rattle.doc_spans.specs.OpenTags.{tag_in}
use Rattle.doc_spans.specs.Rest.{rest}
use Rattle.doc_spans.specs.Seen.{NameBelow, path_in, node_in, tag_of}
use Rattle.doc_spans.specs.Shown.{outer_path}
use Rattle.doc_spans.specs.Sizes.{size_in}
use Rattle.doc_spans.proofs.ChildSteps.{one_more}
use Rattle.doc_spans.proofs.Elements.{element_of, child_of, smaller}
use Rattle.doc_spans.proofs.Shows.{outer_more}
use Rattle.canon_tags.specs.Around.{around_in}
use Rattle.canon_methods.specs.Rules.{rule_in}
use Rattle.canon_forms.specs.Writing.{IsReached}
use Rattle.canon_forms.specs.Walks.{doc_of, held_in, written_in}
use Rattle.canon_forms.proofs.ChildNodes.{left_in, child_written, child_left_out, none_left, held_child}
use Rattle.canon_forms.proofs.ElementTexts.{element_written}
use Rattle.canon_forms.proofs.nodes.+put_node.Goals as goal

pub has_below-requires-clause-reached : goal.has_below-requires-clause-reached
has_below-requires-clause-reached t c =
    let walk = c.args.walk.now in
    let path = path_in (doc_of walk) c.args.node in
    let next = child_of (doc_of walk) path (length c.loop-child.yielded) _ _ c.in-Some-child.child c.in-Some-child.ensures.steps c.loop-child.invariant.2 in
    let P : Path → Type 0 = λ p. IsReached (held_in walk) p in
    subst P (sym (ap outer_path next.at ∙ outer_more path (length c.loop-child.yielded))) c.requires.reached

pub put_node-requires : goal.put_node-requires
put_node-requires t c =
    let walk = c.args.walk.now in
    let next = child_of (doc_of walk) (path_in (doc_of walk) c.args.node) (length c.loop-child.yielded) _ _ c.in-Some-child.child c.in-Some-child.ensures.steps c.loop-child.invariant.2 in
    let tag : Some (tag_in c.in-Some.tag) ≡ tag_of (doc_of walk) c.args.node = c.in-Some.ensures ∙ ap (λ doc. tag_of doc c.args.node) c.doc-doc.ensures in
    let less : size_in (doc_of walk) c.in-Some-child.child < size_in (doc_of walk) c.args.node =
    smaller (doc_of walk) c.args.node c.in-Some-child.child (length c.loop-child.yielded) _ (tag_in c.in-Some.tag) (element_of (node_in (doc_of walk) c.args.node) (tag_in c.in-Some.tag) tag) next in
    let P : ℕ → Type 0 = λ n. size_in (doc_of walk) c.in-Some-child.child < n in
    (subst P c.decreases less, (next.within, held_child walk _ _ c.in-Some-child.child _ next (sym c.has_below.ensures ∙ c.if-has_below.true)))

pub loop-child-preserved-in-Continue-branch-2 : goal.loop-child-preserved-in-Continue-branch-2
loop-child-preserved-in-Continue-branch-2 t c =
    let walk = c.args.walk.now in
    let i = length c.loop-child.yielded in
    let path = path_in (doc_of walk) c.args.node in
    let around : Around = around_in c.open.new.self in
    let next = child_of (doc_of walk) path i _ _ c.in-Some-child.child c.in-Some-child.ensures.steps c.loop-child.invariant.2 in
    let more : suc i ≡ length (c.loop-child.yielded ++ c.in-Some-child.child ∷ []) = one_more c.loop-child.yielded c.in-Some-child.child in
    let P : ℕ → Type 0 = λ n. NameBelow (doc_of walk) path n (rest c.next.new.self) in
    let Q : ℕ → Type 0 = λ n. c.put_node.new.out ++ left_in walk around path n ≡ c.open.new.out ++ left_in walk around path 0 in
    let written : c.put_node.new.out ≡ c.loop-child.out ++ written_in walk around c.in-Some-child.child =
    c.in_ok-put_node.ensures.written ∙ ap (λ a. c.loop-child.out ++ written_in walk a c.in-Some-child.child) c.loop-child.invariant.3 in (
      tt,
      tt,
      subst P more next.later,
      c.in_ok-put_node.ensures.around ∙ c.loop-child.invariant.3,
      subst Q more (child_written walk around path i c.in-Some-child.child _ c.loop-child.out c.put_node.new.out _ next (sym c.has_below.ensures ∙ c.if-has_below.true) written c.loop-child.invariant.4),
    )

pub loop-child-preserved : goal.loop-child-preserved
loop-child-preserved t c =
    let walk = c.args.walk.now in
    let i = length c.loop-child.yielded in
    let path = path_in (doc_of walk) c.args.node in
    let around : Around = around_in c.open.new.self in
    let next = child_of (doc_of walk) path i _ _ c.in-Some-child.child c.in-Some-child.ensures.steps c.loop-child.invariant.2 in
    let more : suc i ≡ length (c.loop-child.yielded ++ c.in-Some-child.child ∷ []) = one_more c.loop-child.yielded c.in-Some-child.child in
    let P : ℕ → Type 0 = λ n. NameBelow (doc_of walk) path n (rest c.next.new.self) in
    let Q : ℕ → Type 0 = λ n. c.loop-child.out ++ left_in walk around path n ≡ c.open.new.out ++ left_in walk around path 0 in (
      tt,
      tt,
      subst P more next.later,
      c.loop-child.invariant.3,
      subst Q more (child_left_out walk around path i c.in-Some-child.child _ c.loop-child.out _ next (sym c.has_below.ensures ∙ c.if-has_below.false) c.loop-child.invariant.4),
    )

pub returns-clause-written : goal.returns-clause-written
returns-clause-written t c =
    let walk = c.args.walk.now in
    let i = length c.loop-child.yielded in
    let path = path_in (doc_of walk) c.args.node in
    let before : Around = around_in c.args.around.now in
    let tag : Tag = tag_in c.in-Some.tag in
    let is_tag : Some tag ≡ tag_of (doc_of walk) c.args.node = c.in-Some.ensures ∙ ap (λ doc. tag_of doc c.args.node) c.doc-doc.ensures in
    let none = none_left walk (around_in c.open.new.self) path i _ c.in-None-child.ensures.steps.0 c.loop-child.invariant.2 in
    let inner : c.loop-child.out ++ [] ≡ c.open.new.out ++ left_in walk (inside (rule_in walk.rule) before tag) path 0 =
    sym (ap (λ x. c.loop-child.out ++ x) none) ∙ c.loop-child.invariant.4 ∙ ap (λ a. c.open.new.out ++ left_in walk a path 0) c.in_ok-outside.ensures.inside in
    let P : List ℕ → Type 0 = λ xs. OnOk c.put_end_tag.result (c.put_end_tag.new.out ≡ xs) in
    subst P (element_written walk before c.args.node c.in-Some.tag c.args.out.now c.open.new.out c.loop-child.out is_tag c.in_ok-outside.ensures.text inner) c.put_end_tag.ensures
