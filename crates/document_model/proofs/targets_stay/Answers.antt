use Rattle.document_model.proofs.Targets.{keeps_targets}
use Rattle.document_model.proofs.targets_stay.Goals as goal

pub returns : goal.returns
returns c = keeps_targets
