use Rattle.document_model.proofs.Put.{puts_last, opens_tag}
use Rattle.document_model.proofs.items_are_put_last.Goals as goal

pub returns-clause-put : goal.returns-clause-put
returns-clause-put c = puts_last

pub returns-clause-opened : goal.returns-clause-opened
returns-clause-opened c = opens_tag
