use Rattle.std.proofs.Common.{map, ap, ◌∙◌}
use Rattle.policy_rules.specs.View.{rules}
use Rattle.whole_files.specs.Wants.{held_of, policy_of}
use Rattle.command_words.specs.Attaching.{attaches_of}
use Rattle.xades_cli.proofs.AttachLemmas.{accepted_policy, refused_policy}
use Rattle.xades_cli.proofs.attach.attach_items.Goals as goal

pub returns-in-Err : goal.returns-in-Err
returns-in-Err c =
    refused_policy (attaches_of c.args.asked.now).at (map held_of c.args.files.items) c.policy_of.result.now c.in-Err.stop
    (c.policy_of.ensures ∙ ap (λ fs. policy_of (map held_of fs)) c.as_slice.ensures.value) c.in-Err.ensures.err

pub returns : goal.returns
returns c =
    accepted_policy (rules c.in-Ok.policy) (attaches_of c.args.asked.now).at (map held_of c.args.files.items) c.policy_of.result.now c.take_and_write.result
    (c.policy_of.ensures ∙ ap (λ fs. policy_of (map held_of fs)) c.as_slice.ensures.value) c.in-Ok.ensures.ok c.take_and_write.ensures
