use Rattle.attached_lists.proofs.Files.{files_cover}
use Rattle.attached_lists.proofs.files_cover.Goals as goal

pub returns : goal.returns
returns c = files_cover
