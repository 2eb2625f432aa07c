use Rattle.renewed_documents.proofs.Renewed.{files_renew}
use Rattle.renewed_documents.proofs.files_renew.Goals as goal

pub returns : goal.returns
returns c = files_renew
