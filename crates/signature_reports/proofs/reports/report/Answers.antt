use Rattle.std.proofs.Common.{ℕ, List, ℤ, sym, ◌∙◌, ap, subst, to_z-of_z}
use Rattle.doc_spans.specs.Seen.{document_in}
use Rattle.policy_rules.specs.View.{rules}
use Rattle.signature_cases.specs.Built.{case_of}
use Rattle.signature_elements.specs.Standing.{spot_of}
use Rattle.signature_evidence.specs.Answers.{AreAnswers}
use Rattle.signature_evidence.specs.Evidence.{evidence_of}
use Rattle.signature_evidence.specs.Reporting.{IsReportOf}
use Rattle.signature_evidence.proofs.InRange.{evidence_is_in_range}
use Rattle.time_texts.specs.Clock.{clock}
use Rattle.report_texts.proofs.Reported.{evidence_is_matched, facts_make_reports}
use Rattle.report_texts.proofs.Timed.{facts_are_timed}
use Rattle.report_texts.specs.Facts.{AreTimed, Facts, is_yes}
use Rattle.report_texts.specs.Shown.{facts_of}
use Rattle.report_texts.specs.Texts.{text_of}
use Rattle.signature_verdicts.specs.Seen.{answers_in}
use Rattle.signature_reports.proofs.Fitting.{fitting}
use Rattle.signature_reports.proofs.Yes.{yes_is}
use Rattle.signature_reports.proofs.reports.report.Goals as goal

pub facts-requires : goal.facts-requires
facts-requires c =
    let (doc, handed, more, of) = c.requires.built in
    let signature = spot_of doc c.args.parts.now.signature in
    let policy = rules c.args.policy.now in
    let evidence = evidence_of handed (document_in doc) signature more in
    let case = case_of c.args.shown.now in
    let answers = c.in_ok-answers.answers in
    let range = evidence_is_in_range handed (document_in doc) signature more of.material in
    let are : AreAnswers policy evidence case c.args.now answers.times (answers_in answers) =
    subst (λ (now : ℤ). AreAnswers policy evidence case now answers.times (answers_in answers)) (to_z-of_z c.ranges.now) (c.in_ok-answers.ensures doc handed more of) in
    fitting policy evidence c.args.shown.now answers c.args.now range of.built are

pub write_report-requires : goal.write_report-requires
write_report-requires c =
    let (doc, handed, more, of) = c.requires.built in
    let signature = spot_of doc c.args.parts.now.signature in
    let policy = rules c.args.policy.now in
    let evidence = evidence_of handed (document_in doc) signature more in
    let case = case_of c.args.shown.now in
    let answers = c.in_ok-answers.answers in
    let range = evidence_is_in_range handed (document_in doc) signature more of.material in
    let are : AreAnswers policy evidence case c.args.now answers.times (answers_in answers) =
    subst (λ (now : ℤ). AreAnswers policy evidence case now answers.times (answers_in answers)) (to_z-of_z c.ranges.now) (c.in_ok-answers.ensures doc handed more of) in
    let said = c.in_ok-facts.ensures policy evidence of.built
    ∙ ap (λ (now : ℤ). facts_of policy evidence now answers.times (answers_in answers)) (to_z-of_z c.ranges.now) in
    subst (λ (facts : Facts). AreTimed facts) (sym said)
    (facts_are_timed policy evidence case c.args.now answers.times (answers_in answers) range of.built.is_case are.earliest c.requires.moment)

pub returns-clause-text : goal.returns-clause-text
returns-clause-text c doc handed more of =
    let signature = spot_of doc c.args.parts.now.signature in
    let policy = rules c.args.policy.now in
    let evidence = evidence_of handed (document_in doc) signature more in
    let case = case_of c.args.shown.now in
    let answers = c.in_ok-answers.answers in
    let are : AreAnswers policy evidence case c.args.now answers.times (answers_in answers) =
    subst (λ (now : ℤ). AreAnswers policy evidence case now answers.times (answers_in answers)) (to_z-of_z c.ranges.now) (c.in_ok-answers.ensures doc handed more of) in
    let said = c.in_ok-facts.ensures policy evidence of.built
    ∙ ap (λ (now : ℤ). facts_of policy evidence now answers.times (answers_in answers)) (to_z-of_z c.ranges.now) in
    subst (λ (text : List ℕ). IsReportOf clock policy evidence c.args.now text) (sym (c.in_ok-text.ensures ∙ ap (λ (facts : Facts). text_of facts) said))
    (facts_make_reports policy evidence case c.args.now answers.times (answers_in answers) (evidence_is_matched handed (document_in doc) signature more) of.built.is_case are)

pub returns-clause-verdict : goal.returns-clause-verdict
returns-clause-verdict c doc handed more of =
    let signature = spot_of doc c.args.parts.now.signature in
    let policy = rules c.args.policy.now in
    let evidence = evidence_of handed (document_in doc) signature more in
    let case = case_of c.args.shown.now in
    let answers = c.in_ok-answers.answers in
    let range = evidence_is_in_range handed (document_in doc) signature more of.material in
    let are : AreAnswers policy evidence case c.args.now answers.times (answers_in answers) =
    subst (λ (now : ℤ). AreAnswers policy evidence case now answers.times (answers_in answers)) (to_z-of_z c.ranges.now) (c.in_ok-answers.ensures doc handed more of) in
    let said = c.in_ok-facts.ensures policy evidence of.built
    ∙ ap (λ (now : ℤ). facts_of policy evidence now answers.times (answers_in answers)) (to_z-of_z c.ranges.now) in
    yes_is policy evidence case c.args.now answers.times (answers_in answers) c.is_yes-yes.result range (evidence_is_matched handed (document_in doc) signature more) of.built.is_case are
    (c.is_yes-yes.ensures ∙ ap (λ (facts : Facts). is_yes facts) said)
