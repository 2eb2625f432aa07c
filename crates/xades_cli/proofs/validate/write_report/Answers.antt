use Rattle.std.proofs.Common.{◌↔◌, IsTrue, subst, sym, to_z-of_z}
use Rattle.std.specs.Prelude.{Ok, Err}
use Rattle.document_model.specs.Documents.{document_of}
use Rattle.policy_rules.specs.View.{rules}
use Rattle.qualifying_props.specs.Whole.{is_whole}
use Rattle.reference_chains.specs.HandedIn.{handed_in}
use Rattle.signature_evidence.specs.Judging.{IsYesBy, judged}
use Rattle.signature_evidence.specs.Material.{material_of}
use Rattle.signature_evidence.specs.Reporting.{IsReportOn}
use Rattle.time_texts.specs.Clock.{clock}
use Rattle.xades_validator.specs.Validating.{IsValidated}
use Rattle.xades_cli.proofs.ValidateLemmas.{document_refused, reported}
use Rattle.xades_cli.proofs.validate.write_report.Goals as goal

pub returns-in-Ok : goal.returns-in-Ok
returns-in-Ok c =
    let policy = rules c.args.policy.now in
    let handed = handed_in c.args.externals.now in
    let found = judged is_whole handed (document_of c.args.document.now) (material_of c.args.more.now) in
    let valid = subst (λ t. IsValidated policy handed c.args.more.now t c.args.document.now (Ok c.in-Ok.report)) (to_z-of_z c.ranges.at) c.in-Ok.ensures in
    reported policy found c.args.at c.args.document.now c.into_text.result c.verdict-yes.result valid.0
    (subst (IsReportOn clock policy found c.args.at) (sym c.into_text.ensures) valid.1.text)
    (subst (λ b. IsTrue b ↔ IsYesBy policy found c.args.at) (sym c.verdict-yes.ensures) valid.1.verdict)

pub returns-in-Err-BadDocument : goal.returns-in-Err-BadDocument
returns-in-Err-BadDocument c =
    let policy = rules c.args.policy.now in
    let handed = handed_in c.args.externals.now in
    let found = judged is_whole handed (document_of c.args.document.now) (material_of c.args.more.now) in
    let valid = subst (λ t. IsValidated policy handed c.args.more.now t c.args.document.now (Err c.in-Err-BadDocument.field-0)) (to_z-of_z c.ranges.at) c.in-Err-BadDocument.ensures in
    document_refused policy handed c.args.more.now c.args.document.now c.args.at found c.in-Err-BadDocument.fault
    (subst (λ r. IsValidated policy handed c.args.more.now c.args.at c.args.document.now (Err r)) c.in-Err-BadDocument.field-0-is valid)
