use Rattle.std.proofs.Common.{◌<◌, Option, sym, ◌∙◌, ap, subst}
use Rattle.std.specs.Prelude.{IfSome}
use Rattle.std.specs.Str.{chars}
use Rattle.document_model.specs.Scopes.{declared_space}
use Rattle.doc_spans.specs.declared.documents.NodeId.{NodeId}
use Rattle.doc_spans.specs.Seen.{Has}
use Rattle.doc_spans.proofs.ScopeSteps.{empty_value, empty_text}
use Rattle.node_sets.specs.Scopes.{scope_from}
use Rattle.node_sets.proofs.InScope.{declared_outward, declared_at, has_parent, steps_from, fewer_steps}
use Rattle.node_sets.proofs.scopes.declared_space.Goals as goal

pub returns-in-Some-declared_here-clause-value : goal.returns-in-Some-declared_here-clause-value
returns-in-Some-declared_here-clause-value c =
    let P : Option NodeId → Type 0 = λ o. IfSome o (Has c.args.doc) in
    let has : Has c.args.doc c.in-Some.here = subst P c.in-Some.is c.outward.invariant.0 in
    declared_at c.args.doc c.in-Some.here (chars c.args.prefix.now) _ has c.in-Some-declared_here.ensures.value
    ∙ ap (λ o. declared_space (chars c.args.prefix.now) (scope_from c.args.doc o)) (sym c.in-Some.is)
    ∙ sym c.outward.invariant.1

pub outward-smaller : goal.outward-smaller
outward-smaller c =
    let P : Option NodeId → Type 0 = λ o. IfSome o (Has c.args.doc) in
    let has : Has c.args.doc c.in-Some.here = subst P c.in-Some.is c.outward.invariant.0 in
    let Q : Option NodeId → Type 0 = λ o. steps_from c.args.doc c.parent-at.result < steps_from c.args.doc o in
    subst Q (sym c.in-Some.is) (fewer_steps c.args.doc c.in-Some.here c.parent-at.result has c.parent-at.ensures.some)

pub outward-preserved : goal.outward-preserved
outward-preserved c =
    let P : Option NodeId → Type 0 = λ o. IfSome o (Has c.args.doc) in
    let has : Has c.args.doc c.in-Some.here = subst P c.in-Some.is c.outward.invariant.0 in (
      has_parent c.args.doc c.in-Some.here c.parent-at.result c.parent-at.ensures.some,
      c.outward.invariant.1
          ∙ ap (λ o. declared_space (chars c.args.prefix.now) (scope_from c.args.doc o)) c.in-Some.is
          ∙ declared_outward c.args.doc c.in-Some.here (chars c.args.prefix.now) c.parent-at.result has c.parent-at.ensures.some c.parent-at.ensures.none c.in_default-declared_here.ensures.value,
    )

pub returns-clause-value : goal.returns-clause-value
returns-clause-value c = empty_value ∙ sym (c.outward.invariant.1 ∙ ap (λ o. declared_space (chars c.args.prefix.now) (scope_from c.args.doc o)) c.in_default.is)

pub returns-clause-read : goal.returns-clause-read
returns-clause-read c = empty_text
