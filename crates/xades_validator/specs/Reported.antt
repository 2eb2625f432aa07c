-- When a report is right: its text is the report on what was found, and its verdict is yes exactly where that of the definitions is. XML
-- Signature 1.1, "Core Validation"; RFC 3161, section 2.4.2; RFC 5280, section 6.
use Rattle.std.specs.Prelude.{◌↔◌, IsTrue, ℤ}
use Rattle.policy_rules.specs.Rules.{Rules}
use Rattle.signature_evidence.specs.Judging.{Judged, IsYesBy}
use Rattle.signature_evidence.specs.Reporting.{IsReportOn}
use Rattle.time_texts.specs.Clock.{clock}
use Rattle.xades_validator.specs.declared.reports.Report.{Report}

pub record IsReported (policy : Rules) (judged : Judged) (now : ℤ) (report : Report) : Type 0 where
  pub text : IsReportOn clock policy judged now report.text
  pub verdict : IsTrue report.yes ↔ IsYesBy policy judged now
