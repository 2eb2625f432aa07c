use Rattle.std.proofs.Common.{◌-◌, ◌∙◌, Some, cond, ap, get_or, take, arith}
use Rattle.std.specs.Str.{chars}
use Rattle.xml_items.specs.Found.{value_in}
use Rattle.doc_spans.specs.Scoped.{declared_in}
use Rattle.doc_spans.specs.Declarations.{nearest_first}
use Rattle.doc_spans.proofs.Lookups.{further, none_left}
use Rattle.doc_spans.proofs.declarations.Declared.value_of.Goals as goal

pub returns-then-same-clause-value : goal.returns-then-same-clause-value
returns-then-same-clause-value c =
    let ds = c.args.self.now.items.now in
    c.declarations.invariant.1
    ∙ further (chars c.args.prefix.now) ds c.declarations.left c.index-self-left.result c.same.result c.declarations-test.true (omega (arith, c.declarations.invariant.0, c.declarations-test.true)) c.same.ensures
    ∙ ap (λ b. cond b (Some (value_in (chars (get_or ds (c.declarations.left - 1) c.index-self-left.result).value.now))) (declared_in (chars c.args.prefix.now) (nearest_first (take (c.declarations.left - 1) ds)))) c.if-same.true

pub declarations-preserved : goal.declarations-preserved
declarations-preserved c =
    let ds = c.args.self.now.items.now in (
      omega (arith, c.declarations.invariant.0),
      c.declarations.invariant.1
          ∙ further (chars c.args.prefix.now) ds c.declarations.left c.index-self-left.result c.same.result c.declarations-test.true (omega (arith, c.declarations.invariant.0, c.declarations-test.true)) c.same.ensures
          ∙ ap (λ b. cond b (Some (value_in (chars (get_or ds (c.declarations.left - 1) c.index-self-left.result).value.now))) (declared_in (chars c.args.prefix.now) (nearest_first (take (c.declarations.left - 1) ds)))) c.if-same.false,
    )

pub returns-clause-value : goal.returns-clause-value
returns-clause-value c =
    c.declarations.invariant.1 ∙ none_left (chars c.args.prefix.now) c.args.self.now.items.now c.declarations.left (omega (arith, c.declarations-test.false))
