use Rattle.std.proofs.Common.{◌≡◌, map, ap, ◌∙◌, subst}
use Rattle.std.specs.Prelude.{Some}
use Rattle.policy_rules.specs.View.{rules}
use Rattle.signature_evidence.specs.Judging.{IsYesBy}
use Rattle.whole_files.specs.Wants.{held_of, document_of}
use Rattle.command_words.specs.Validating.{validates_of}
use Rattle.xades_cli.specs.Validate.{AreJudged, found_of}
use Rattle.xades_cli.proofs.ValidateLemmas.{bad_refused}
use Rattle.xades_cli.proofs.validate.judge_and_write.Goals as goal

pub returns-in-Ok-Some : goal.returns-in-Ok-Some
returns-in-Ok-Some c =
    let policy = rules c.args.policy.now in
    let held = map held_of c.args.files.items in
    let at = (validates_of c.args.asked.now).at in
    let document : c.document_of.result.now ≡ document_of held = c.document_of.ensures ∙ ap (λ fs. document_of (map held_of fs)) c.as_slice-in-Ok-Some.ensures.value in
    let told = subst (λ found. AreJudged (map held_of c.as_slice.result.now) found) c.in-Ok-Some.field-0-is c.in-Ok-Some.ensures in
    let first = subst (λ fs. AreJudged (map held_of fs) (Some c.in-Ok-Some.bad)) c.as_slice.ensures.value told in
    bad_refused policy at held c.document_of.result.now c.in-Ok-Some.bad c.stop_by_file.result (λ text. IsYesBy policy (found_of held) at) document first c.stop_by_file.ensures
