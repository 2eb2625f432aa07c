use Rattle.word_patterns.proofs.FittingTexts.{texts_fit}
use Rattle.word_patterns.proofs.fitting.texts_fit.Goals as goal

pub returns : goal.returns
returns c = texts_fit
