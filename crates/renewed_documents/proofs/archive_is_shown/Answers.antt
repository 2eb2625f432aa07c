use Rattle.renewed_documents.proofs.Grown.{archive_is_shown}
use Rattle.renewed_documents.proofs.archive_is_shown.Goals as goal

pub returns : goal.returns
returns c = archive_is_shown
