use Rattle.std.proofs.Common.{not, sym, ◌∙◌, ap}
use Rattle.std.proofs.lemmas.Str.{encodes-chars}
use Rattle.document_model.specs.Items.{or_else}
use Rattle.policy_rules.specs.Rules.{kind_of_uri}
use Rattle.policy_rules.specs.View.{rules}
use Rattle.signature_model.specs.Chains.{when}
use Rattle.signature_checks.specs.Keys.{key_test, method_test}
use Rattle.signature_checks.specs.declared.codes.Code.TheVariants.{KeyKind}
use Rattle.signature_checks.proofs.keys.judge_method.Goals as goal

pub returns-in-None : goal.returns-in-None
returns-in-None c =
    let e = ap (kind_of_uri (rules c.args.policy.now).kinds) (encodes-chars c.args.method.now c.utf8.method) ∙ sym c.in-None.ensures in
    sym (ap (λ o. or_else (method_test o) (key_test o c.args.certificate.now)) e)

pub returns-then-has_key_of : goal.returns-then-has_key_of
returns-then-has_key_of c =
    let e = ap (kind_of_uri (rules c.args.policy.now).kinds) (encodes-chars c.args.method.now c.utf8.method) ∙ sym c.in-Some.ensures in
    sym (ap (λ o. or_else (method_test o) (key_test o c.args.certificate.now)) e ∙ ap (λ b. when (not b) KeyKind) (sym c.has_key_of.ensures ∙ c.if-has_key_of.true))

pub returns-else-has_key_of : goal.returns-else-has_key_of
returns-else-has_key_of c =
    let e = ap (kind_of_uri (rules c.args.policy.now).kinds) (encodes-chars c.args.method.now c.utf8.method) ∙ sym c.in-Some.ensures in
    sym (ap (λ o. or_else (method_test o) (key_test o c.args.certificate.now)) e ∙ ap (λ b. when (not b) KeyKind) (sym c.has_key_of.ensures ∙ c.if-has_key_of.false))
