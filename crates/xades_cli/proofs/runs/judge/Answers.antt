use Rattle.std.proofs.Common.{◌≡◌, map, string_bytes, sym, ap, ◌∙◌, subst, rules}
use Rattle.std.specs.Prelude.{Err}
use Rattle.whole_files.specs.Wants.{AreFor, AreHeld, held_of, names_of, want_of}
use Rattle.whole_files.proofs.PlanLemmas.{asks_none}
use Rattle.xades_cli.specs.Judging.{IsJudged}
use Rattle.xades_cli.specs.Stops.{stop_unread}
use Rattle.command_words.specs.Asked.{asked_by}
use Rattle.command_words.specs.Files.{wants_of}
use Rattle.xades_cli.specs.Commands.{IsComputed}
use Rattle.xades_cli.proofs.RunLemmas.{judged_by, judged_right, unread_judged}
use Rattle.xades_cli.proofs.runs.judge.Goals as goal

pub returns-in_err-command-clause-asked : goal.returns-in_err-command-clause-asked
returns-in_err-command-clause-asked g c = asks_none (names_of (wants_of (asked_by (map string_bytes c.args.words.now)))) (g.S.Shelf.asked c.args.shelf.now)

pub returns-clause-judged : goal.returns-clause-judged
returns-clause-judged g c =
    let words = map string_bytes c.args.words.now in
    let files = map held_of c.in_ok-files.files.items in
    let same = c.in_ok-command.ensures.1 in
    let wants : map want_of c.as_slice.result.now ≡ wants_of (asked_by words) = ap (map want_of) c.as_slice.ensures.value ∙ c.in_ok-wanted.ensures ∙ ap wants_of (sym same) in
    judged_by words files c.compute.result c.in_ok-command.ensures.0 (subst (λ ws. AreFor ws files) wants c.in_ok-files.ensures.read)
    (subst (λ asked. IsComputed asked files c.compute.result) (sym same) c.compute.ensures)

pub returns-in_err-files-clause-judged : goal.returns-in_err-files-clause-judged
returns-in_err-files-clause-judged g c =
    let words = map string_bytes c.args.words.now in
    let told : c.from_residual-in_err-files.result ≡ Err (stop_unread c.in_err-files.field-0.0) = search rules in
    subst (IsJudged words) (sym told) (unread_judged words c.in_err-files.field-0.0 c.in_ok-command.ensures.0)

pub returns-clause-told : goal.returns-clause-told
returns-clause-told g c = λ shelf held.
    let words = map string_bytes c.args.words.now in
    let files = map held_of c.in_ok-files.files.items in
    let same = c.in_ok-command.ensures.1 in
    let wants : map want_of c.as_slice.result.now ≡ wants_of (asked_by words) = ap (map want_of) c.as_slice.ensures.value ∙ c.in_ok-wanted.ensures ∙ ap wants_of (sym same) in
    judged_right (asked_by words) shelf files c.compute.result (subst (λ ws. AreHeld shelf ws files) wants (c.in_ok-files.ensures.told shelf held))
    (subst (λ asked. IsComputed asked files c.compute.result) (sym same) c.compute.ensures)
