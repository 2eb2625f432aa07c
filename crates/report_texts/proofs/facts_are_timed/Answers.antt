use Rattle.report_texts.proofs.Timed.{facts_are_timed}
use Rattle.report_texts.proofs.facts_are_timed.Goals as goal

pub returns : goal.returns
returns c = facts_are_timed
