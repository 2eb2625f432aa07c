use Rattle.std.proofs.Common.{map, ap, ◌∙◌}
use Rattle.whole_files.specs.Wants.{held_of, policy_of}
use Rattle.command_words.specs.Preparing.{prepares_of}
use Rattle.xades_cli.proofs.PrepareLemmas.{refused_policy}
use Rattle.xades_cli.proofs.prepare.prepare_document.Goals as goal

pub returns-in-Err-clause-outcome : goal.returns-in-Err-clause-outcome
returns-in-Err-clause-outcome c =
    refused_policy (prepares_of c.args.asked.now) (map held_of c.args.files.items) c.policy_of.result.now c.in-Err.stop
    (c.policy_of.ensures ∙ ap (λ fs. policy_of (map held_of fs)) c.as_slice.ensures.value) c.in-Err.ensures.err
