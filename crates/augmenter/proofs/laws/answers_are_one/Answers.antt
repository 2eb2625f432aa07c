use Rattle.augmenter.proofs.OneAnswer.{answers_are_one}
use Rattle.augmenter.proofs.laws.answers_are_one.Goals as goal

pub returns : goal.returns
returns c = answers_are_one
