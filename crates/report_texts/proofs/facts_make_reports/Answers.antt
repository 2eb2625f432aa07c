use Rattle.report_texts.proofs.Reported.{facts_make_reports}
use Rattle.report_texts.proofs.facts_make_reports.Goals as goal

pub returns : goal.returns
returns c = facts_make_reports
