use Rattle.xml_items.proofs.TextCharacters.{no_text}
use Rattle.doc_spans.proofs.reading.run_there.Goals as goal

pub returns-else-goes_on-clause-text : goal.returns-else-goes_on-clause-text
returns-else-goes_on-clause-text c = no_text
