use Rattle.std.proofs.Common.{◌≡◌, ℕ, suc, ◌++◌, ◌∷◌, [], length, true, false, subst, sym, ◌∙◌, ap}
use Rattle.doc_spans.specs.Rest.{rest}
use Rattle.doc_spans.specs.Seen.{NameBelow, path_in}
use Rattle.doc_spans.proofs.ChildSteps.{one_more}
use Rattle.doc_spans.proofs.Elements.{child_of}
use Rattle.node_sets.specs.Scopes.{named_at}
use Rattle.canon_methods.proofs.Named.{among_left, inclusive_namespaces, inclusive_namespaces_text, listed_here, listed_further, listed_nowhere}
use Rattle.canon_methods.proofs.methods.listed_prefixes.Goals as goal

pub loop-child-preserved : goal.loop-child-preserved
loop-child-preserved c =
    let doc = c.args.doc in
    let i = length c.loop-child.yielded in
    let next = child_of doc (path_in doc c.args.method) i _ _ c.in-Some.child c.in-Some.ensures.steps c.loop-child.invariant.2 in
    let more : suc i ≡ length (c.loop-child.yielded ++ c.in-Some.child ∷ []) = one_more c.loop-child.yielded c.in-Some.child in
    let P : ℕ → Type 0 = λ n. NameBelow doc (path_in doc c.args.method) n (rest c.next.new.self) in
    let Q : ℕ → Type 0 = λ n. among_left doc c.args.method n ≡ among_left doc c.args.method 0 in
    let other : named_at doc c.in-Some.child inclusive_namespaces ≡ false = ap (named_at doc c.in-Some.child) (sym inclusive_namespaces_text) ∙ sym c.is_named.ensures ∙ c.if-is_named.false in (
      tt,
      tt,
      subst P more next.later,
      subst Q more (sym (listed_further doc c.args.method c.in-Some.child i _ next other) ∙ c.loop-child.invariant.3),
    )

pub returns-then-is_named : goal.returns-then-is_named
returns-then-is_named c =
    let doc = c.args.doc in
    let i = length c.loop-child.yielded in
    let next = child_of doc (path_in doc c.args.method) i _ _ c.in-Some.child c.in-Some.ensures.steps c.loop-child.invariant.2 in
    let this : named_at doc c.in-Some.child inclusive_namespaces ≡ true = ap (named_at doc c.in-Some.child) (sym inclusive_namespaces_text) ∙ sym c.is_named.ensures ∙ c.if-is_named.true in
    c.prefix_list.ensures ∙ sym (listed_here doc c.args.method c.in-Some.child i _ next this) ∙ c.loop-child.invariant.3

pub returns : goal.returns
returns c =
    c.none.ensures
    ∙ sym (listed_nowhere c.args.doc c.args.method (length c.loop-child.yielded) _ c.in-None.ensures.steps.0 c.loop-child.invariant.2)
    ∙ c.loop-child.invariant.3
