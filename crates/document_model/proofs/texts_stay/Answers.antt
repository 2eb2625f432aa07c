use Rattle.document_model.proofs.Kept.{keeps_texts, keeps_texts_beside}
use Rattle.document_model.proofs.texts_stay.Goals as goal

pub returns-clause-outside : goal.returns-clause-outside
returns-clause-outside c = keeps_texts

pub returns-clause-beside : goal.returns-clause-beside
returns-clause-beside c = keeps_texts_beside
