use Rattle.report_texts.proofs.Reported.{verdict_is_said}
use Rattle.report_texts.proofs.verdict_is_said.Goals as goal

pub returns : goal.returns
returns c = verdict_is_said
