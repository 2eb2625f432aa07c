use Rattle.tst_tokens.proofs.Parts.{parts_stand}
use Rattle.tst_tokens.proofs.laws.parts_stand.Goals as goal

pub returns : goal.returns
returns c = parts_stand
