use Rattle.completeness.proofs.Single.{one_answer_fits}
use Rattle.completeness.proofs.one_answer_fits.Goals as goal

pub returns : goal.returns
returns c = one_answer_fits
