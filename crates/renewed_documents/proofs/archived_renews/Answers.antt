use Rattle.renewed_documents.proofs.OnBytes.{archived_renews}
use Rattle.renewed_documents.proofs.archived_renews.Goals as goal

pub returns : goal.returns
returns c = archived_renews
