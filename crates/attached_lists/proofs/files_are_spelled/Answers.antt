use Rattle.attached_lists.proofs.Files.{files_are_spelled}
use Rattle.attached_lists.proofs.files_are_spelled.Goals as goal

pub returns : goal.returns
returns c = files_are_spelled
