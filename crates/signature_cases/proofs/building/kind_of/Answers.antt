use Rattle.std.proofs.Common.{sym, ap, ◌∙◌}
use Rattle.std.proofs.lemmas.Str.{encodes-chars}
use Rattle.policy_rules.specs.Rules.{kind_of_uri}
use Rattle.policy_rules.specs.View.{rules}
use Rattle.signature_cases.proofs.building.kind_of.Goals as goal

pub returns : goal.returns
returns c = c.kind_of_uri.ensures ∙ ap (kind_of_uri (rules c.args.policy.now).kinds) (sym (encodes-chars c.args.method.now c.utf8.method))
