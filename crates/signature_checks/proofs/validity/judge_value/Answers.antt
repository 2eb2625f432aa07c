use Rattle.std.proofs.Common.{not, sym, ◌∙◌, ap}
use Rattle.std.proofs.lemmas.Str.{encodes-chars}
use Rattle.policy_rules.specs.Rules.{kind_of_uri}
use Rattle.policy_rules.specs.View.{rules}
use Rattle.signature_model.specs.Chains.{when}
use Rattle.signature_checks.specs.Validity.{value_test}
use Rattle.signature_checks.specs.declared.codes.Code.TheVariants.{ValueFails}
use Rattle.signature_checks.proofs.validity.judge_value.Goals as goal

pub returns-in-None : goal.returns-in-None
returns-in-None c =
    let e = ap (kind_of_uri (rules c.args.policy.now).kinds) (encodes-chars c.args.method.now c.utf8.method) ∙ sym c.in-None.ensures in
    sym (ap (λ o. value_test o c.args.certificate.now c.args.octets.now c.args.value.now) e)

pub returns-then-verifies : goal.returns-then-verifies
returns-then-verifies c =
    let e = ap (kind_of_uri (rules c.args.policy.now).kinds) (encodes-chars c.args.method.now c.utf8.method) ∙ sym c.in-Some.ensures in
    sym (ap (λ o. value_test o c.args.certificate.now c.args.octets.now c.args.value.now) e ∙ ap (λ b. when (not b) ValueFails) (sym c.verifies.ensures ∙ c.if-verifies.true))

pub returns-else-verifies : goal.returns-else-verifies
returns-else-verifies c =
    let e = ap (kind_of_uri (rules c.args.policy.now).kinds) (encodes-chars c.args.method.now c.utf8.method) ∙ sym c.in-Some.ensures in
    sym (ap (λ o. value_test o c.args.certificate.now c.args.octets.now c.args.value.now) e ∙ ap (λ b. when (not b) ValueFails) (sym c.verifies.ensures ∙ c.if-verifies.false))
