use Rattle.std.proofs.Common.{map, ap, ◌∙◌}
use Rattle.policy_rules.specs.View.{rules}
use Rattle.whole_files.specs.Wants.{held_of, policy_of}
use Rattle.command_words.specs.Validating.{validates_of}
use Rattle.xades_cli.proofs.ValidateLemmas.{by_the_policy, no_policy}
use Rattle.xades_cli.proofs.validate.validate_document.Goals as goal

pub returns-in-Err : goal.returns-in-Err
returns-in-Err c =
    no_policy (validates_of c.args.asked.now).at (map held_of c.args.files.items) c.policy_of.result.now c.in-Err.stop
    (c.policy_of.ensures ∙ ap (λ fs. policy_of (map held_of fs)) c.as_slice.ensures.value) c.in-Err.ensures.err

pub returns : goal.returns
returns c =
    by_the_policy (rules c.in-Ok.policy) (validates_of c.args.asked.now).at (map held_of c.args.files.items) c.policy_of.result.now c.judge_and_write.result
    (c.policy_of.ensures ∙ ap (λ fs. policy_of (map held_of fs)) c.as_slice.ensures.value) c.in-Ok.ensures.ok c.judge_and_write.ensures
