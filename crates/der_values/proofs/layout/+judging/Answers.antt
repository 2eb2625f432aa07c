use Rattle.std.proofs.Common.{◌≡◌, ℕ, Result, sym, ap, subst, ◌∙◌, ◌+◌}
use Rattle.der_values.specs.Distinct.{StandsAt}
use Rattle.der_values.specs.Layout.{read, element}
use Rattle.der_values.specs.Meaning.{meaning}
use Rattle.der_values.specs.View.{content_view}
use Rattle.der_values.specs.declared.rules.Rule.{Rule}
use Rattle.der_values.proofs.FitsLaws.{read_one}
use Rattle.der_values.proofs.NotTwice.{chosen_rule, stands_next}
use Rattle.der_values.proofs.layout.«+judging».Goals as goal

pub judge_next-returns-in-Ok-clause-value : goal.judge_next-returns-in-Ok-clause-value
judge_next-returns-in-Ok-clause-value t c =
    let same = chosen_rule c.args.tag (meaning c.args.inner.now) (content_view c.args.content.now) c.args.offset c.args.number c.args.apart c.requires.stands c.requires.apart in
    let rule = ap (λ (r : Rule). read (element c.args.tag r (meaning c.args.inner.now)) (content_view c.args.content.now) c.args.offset) c.distinct_rule-rule.ensures in
    sym (rule ∙ same) ∙ c.in-Ok.ensures.value

pub judge_next-returns-in-Ok-clause-next : goal.judge_next-returns-in-Ok-clause-next
judge_next-returns-in-Ok-clause-next t c =
    let (e, is, end) = read_one c.args.tag c.distinct_rule-rule.result (meaning c.args.inner.now) (content_view c.args.content.now) c.args.offset c.in-Ok.end c.in-Ok.ensures.value in
    subst (λ (n : ℕ). StandsAt c.args.content.now.bytes.now n (c.args.number + 1)) (sym end) (stands_next c.args.content.now.bytes.now c.args.offset c.args.number e c.requires.stands is)

pub judge_next-returns-in-Err-clause-value : goal.judge_next-returns-in-Err-clause-value
judge_next-returns-in-Err-clause-value t c =
    let same = chosen_rule c.args.tag (meaning c.args.inner.now) (content_view c.args.content.now) c.args.offset c.args.number c.args.apart c.requires.stands c.requires.apart in
    let rule = ap (λ (r : Rule). read (element c.args.tag r (meaning c.args.inner.now)) (content_view c.args.content.now) c.args.offset) c.distinct_rule-rule.ensures in
    sym (rule ∙ same) ∙ c.in-Err.ensures.value
