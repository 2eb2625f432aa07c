use Rattle.attached_lists.proofs.Files.{calls_compose}
use Rattle.attached_lists.proofs.calls_compose.Goals as goal

pub returns : goal.returns
returns c = calls_compose
