use Rattle.report_texts.proofs.Reported.{evidence_is_matched}
use Rattle.report_texts.proofs.evidence_is_matched.Goals as goal

pub returns : goal.returns
returns c = evidence_is_matched
