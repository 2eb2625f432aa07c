use Rattle.std.proofs.Common.{◌≡◌, subst, rules as known, SFits, w64, to_z-of_z}
use Rattle.std.specs.Prelude.{IfOk}
use Rattle.doc_spans.specs.Seen.{document_in}
use Rattle.policy_rules.specs.View.{rules}
use Rattle.qualifying_props.specs.Whole.{is_whole}
use Rattle.reference_chains.specs.HandedIn.{handed_in}
use Rattle.signature_evidence.specs.Judging.{judged}
use Rattle.signature_evidence.specs.Material.{material_of}
use Rattle.signature_evidence.specs.Report.{fault_report}
use Rattle.signature_evidence.specs.Reporting.{code}
use Rattle.time_texts.specs.Clock.{clock}
use Rattle.signature_model.specs.Readable.{answer}
use Rattle.xades_validator.proofs.FaultReports.{fault_reported, unread_never, unread_text}
use Rattle.xades_validator.proofs.judging.report_on.Goals as goal

pub returns-in_ok-number-in-Err : goal.returns-in_ok-number-in-Err
returns-in_ok-number-in-Err c =
    let range : SFits w64 c.args.asked.now = search known in
    let policy = rules c.args.asked.policy.now in
    let handed = handed_in c.args.asked.externals.now in
    let document = document_in c.args.doc in
    let more = material_of c.args.asked.more.now in
    let found = answer is_whole document in
    let number = c.in_ok-number-in-Err.number in
    let told = c.in_ok-number-in-Err.ensures c.args.doc found c.in-Err.ensures in
    fault_reported policy (judged is_whole handed document more) c.args.asked.now number c.report_fault.result
    (unread_text policy handed document more c.args.asked.now found number told) (unread_never policy handed document more c.args.asked.now found number told)
    (subst (λ t. IfOk c.report_fault.result (λ report. report.text ≡ fault_report clock t (code number))) (to_z-of_z range) c.report_fault.ensures.text) c.report_fault.ensures.verdict
