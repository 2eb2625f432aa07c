use Rattle.document_model.proofs.Extending.{extends_itself, extends_through, only_adds}
use Rattle.document_model.proofs.documents_only_grow.Goals as goal

pub returns-clause-adds : goal.returns-clause-adds
returns-clause-adds c = only_adds

pub returns-clause-whole : goal.returns-clause-whole
returns-clause-whole c = extends_itself

pub returns-clause-through : goal.returns-clause-through
returns-clause-through c = extends_through
