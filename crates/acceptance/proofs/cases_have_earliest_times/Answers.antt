use Rattle.acceptance.proofs.Cases.{cases_have_earliest_times}
use Rattle.acceptance.proofs.cases_have_earliest_times.Goals as goal

pub returns : goal.returns
returns c = cases_have_earliest_times
