use Rattle.renewed_documents.proofs.Renewing.{renewal_keeps_yes_of_documents}
use Rattle.renewed_documents.proofs.renewal_keeps_yes_of_documents.Goals as goal

pub returns : goal.returns
returns c = renewal_keeps_yes_of_documents
