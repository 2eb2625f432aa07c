use Rattle.std.proofs.Common.{◌↔◌, IsTrue, subst, rules as known, SFits, w64, to_z-of_z}
use Rattle.doc_spans.specs.Seen.{document_in}
use Rattle.policy_rules.specs.View.{rules}
use Rattle.reference_chains.specs.HandedIn.{handed_in}
use Rattle.signature_cases.specs.Built.{IsCounted}
use Rattle.signature_elements.specs.Standing.{spot_of}
use Rattle.signature_evidence.specs.Evidence.{evidence_of}
use Rattle.signature_evidence.specs.Cases.{IsYesOf}
use Rattle.signature_evidence.specs.Material.{material_of}
use Rattle.signature_evidence.specs.Reporting.{IsReportOf}
use Rattle.time_texts.specs.Clock.{clock}
use Rattle.signature_evidence.proofs.Material.{material_has_no_tokens}
use Rattle.signature_verdicts.specs.Seen.{IsBuiltOf}
use Rattle.xades_validator.proofs.FaultReports.{shown_reported}
use Rattle.xades_validator.proofs.judging.report_on_signed.Goals as goal

pub report-requires-clause-built : goal.report-requires-clause-built
report-requires-clause-built c =
    let handed = handed_in c.args.asked.externals.now in
    let more = material_of c.args.asked.more.now in
    let evidence = evidence_of handed (document_in c.args.doc) (spot_of c.args.doc c.args.parts.now.signature) more in
    let counted = subst (IsCounted (rules c.args.asked.policy.now) evidence) c.in-Built.is c.in_ok-build.ensures in
    (c.args.doc, handed, more, record { read = c.requires.parts; material = material_has_no_tokens c.args.asked.more.now; built = counted.1 })

pub returns-in_ok-text-in-Built : goal.returns-in_ok-text-in-Built
returns-in_ok-text-in-Built c =
    let policy = rules c.args.asked.policy.now in
    let handed = handed_in c.args.asked.externals.now in
    let more = material_of c.args.asked.more.now in
    let evidence = evidence_of handed (document_in c.args.doc) (spot_of c.args.doc c.args.parts.now.signature) more in
    let counted = subst (IsCounted policy evidence) c.in-Built.is c.in_ok-build.ensures in
    let built : IsBuiltOf policy c.args.doc handed more c.args.parts.now c.in-Built.case
    = record { read = c.requires.parts; material = material_has_no_tokens c.args.asked.more.now; built = counted.1 } in
    let range : SFits w64 c.args.asked.now = search known in
    let said = c.in_ok-text-in-Built.field-0 in
    shown_reported policy evidence c.args.asked.now _ counted.0 (record {
      text = subst (λ t. IsReportOf clock policy evidence t said.text) (to_z-of_z range) (c.in_ok-text-in-Built.ensures.text c.args.doc handed more built);
      verdict = subst (λ t. IsTrue said.yes ↔ IsYesOf policy evidence t) (to_z-of_z range) (c.in_ok-text-in-Built.ensures.verdict c.args.doc handed more built);
    })
