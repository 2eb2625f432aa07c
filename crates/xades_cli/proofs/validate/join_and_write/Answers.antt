use Rattle.std.proofs.Common.{◌≡◌, ◌∷◌, ◌++◌, map, sym, ap, ◌∙◌, subst, rules as known, SFits, w64, to_z-of_z}
use Rattle.document_model.specs.Documents.{document_of}
use Rattle.policy_rules.specs.View.{rules}
use Rattle.qualifying_props.specs.Whole.{is_whole}
use Rattle.reference_chains.specs.HandedIn.{handed_in}
use Rattle.signature_cases.specs.Handed.{IsMaterial}
use Rattle.signature_evidence.specs.Judging.{IsYesBy, judged}
use Rattle.signature_evidence.specs.Material.{material_of}
use Rattle.signature_model.specs.Chains.{Handed}
use Rattle.time_texts.specs.Clock.{IsOfYears}
use Rattle.time_texts.proofs.TextsOfTimes.{time_within}
use Rattle.whole_files.specs.Wants.{held_of}
use Rattle.whole_files.specs.Wants as files
use Rattle.command_words.specs.Validating.{validates_of}
use Rattle.command_words.specs.Wanting.{document_want, external_want, more_want, policy_want}
use Rattle.xades_cli.specs.Computed.{IsResultOf}
use Rattle.xades_cli.specs.Validate.{IsJudgementOf, more_of}
use Rattle.std.specs.Prelude.{List, ℕ}
use Rattle.xades_cli.proofs.CommandLemmas.{first_read, first_removed, some_file}
use Rattle.xades_cli.proofs.ValidateLemmas.{IsAtHand, bytes, given, more_material, whole_judged}
use Rattle.xades_cli.proofs.validate.join_and_write.Goals as goal

pub write_report-requires-clause-moment : goal.write_report-requires-clause-moment
write_report-requires-clause-moment c =
    let range : SFits w64 c.args.asked.now.at = search known in
    subst IsOfYears (sym (to_z-of_z range)) (time_within c.requires.moment.text c.args.asked.now.at c.requires.moment.moment)

pub write_report-requires-clause-more : goal.write_report-requires-clause-more
write_report-requires-clause-more c =
    let held = map held_of c.args.files.items in
    let joined : c.as_slice-3.result.now ≡ more_of held = c.as_slice-3.ensures.value ∙ c.in_ok-more.ensures ∙ ap (λ fs. more_of (map held_of fs)) c.as_slice.ensures.value in
    subst IsMaterial (sym joined) (more_material held c.requires.whole)

pub returns : goal.returns
returns c =
    let range : SFits w64 c.args.asked.now.at = search known in
    let asked = validates_of c.args.asked.now in
    let policy = rules c.args.policy.now in
    let held = map held_of c.args.files.items in
    let first = c.remove-document.result in
    let others = c.remove-document.new.self.items in
    let handed = handed_in c.in_ok-externals.externals in
    let wants = policy_want asked.policy ∷ map external_want asked.externals ++ map more_want asked.more in
    let whole : c.args.files.items ≡ first ∷ others
    = rw c.remove-document.ensures.items (first_removed c.args.files.items first (some_file (document_want asked.document) wants c.args.files.items c.requires.read) c.remove-document.ensures.value) in
    let hand : IsAtHand asked.document c.args.files.items first others handed = record {
      for = first_read (document_want asked.document) wants held (held_of first) (map held_of others) (ap (map held_of) whole) c.requires.read;
      parts = whole;
      same = c.in_ok-externals.ensures;
    } in
    let joined : c.as_slice-3.result.now ≡ more_of held = c.as_slice-3.ensures.value ∙ c.in_ok-more.ensures ∙ ap (λ fs. more_of (map held_of fs)) c.as_slice.ensures.value in
    let document : c.as_slice-2.result.now ≡ files.document_of held = c.as_slice-2.ensures.value ∙ bytes asked.document c.args.files.items first others handed hand in
    let at_moment = subst (λ t. let found = judged is_whole handed (document_of c.as_slice-2.result.now) (material_of c.as_slice-3.result.now) in IsResultOf (IsJudgementOf policy found t c.as_slice-2.result.now) (λ text. IsYesBy policy found t) c.write_report.result)
    (to_z-of_z range) c.write_report.ensures in
    whole_judged policy asked.at held c.write_report.result c.requires.whole
    (subst (λ (all : Handed × List ℕ × List ℕ). let found = judged is_whole all.0 (document_of all.1) (material_of all.2) in IsResultOf (IsJudgementOf policy found asked.at all.1) (λ text. IsYesBy policy found asked.at) c.write_report.result)
    (λ i. (given asked.document c.args.files.items first others handed hand i, document i, joined i)) at_moment)
