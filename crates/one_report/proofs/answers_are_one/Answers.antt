use Rattle.one_report.proofs.OneAnswer.{answers_are_one}
use Rattle.one_report.proofs.answers_are_one.Goals as goal

pub returns : goal.returns
returns c = answers_are_one
