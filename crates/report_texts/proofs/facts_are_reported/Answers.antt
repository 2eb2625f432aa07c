use Rattle.report_texts.proofs.Reported.{facts_are_reported}
use Rattle.report_texts.proofs.facts_are_reported.Goals as goal

pub returns : goal.returns
returns c = facts_are_reported
