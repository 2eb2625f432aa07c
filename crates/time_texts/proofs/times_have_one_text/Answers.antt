use Rattle.time_texts.proofs.Clocks.{times_have_one_text}
use Rattle.time_texts.proofs.times_have_one_text.Goals as goal

pub returns : goal.returns
returns c = times_have_one_text
