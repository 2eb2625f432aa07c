use Rattle.xml_items.proofs.TextCharacters.{no_text}
use Rattle.xml_items.proofs.runs.wide_run.Goals as goal

pub returns-else-are_text-clause-text : goal.returns-else-are_text-clause-text
returns-else-are_text-clause-text c = no_text

pub returns-in-None-clause-text : goal.returns-in-None-clause-text
returns-in-None-clause-text c = no_text

pub returns-else-at-bytes-clause-text : goal.returns-else-at-bytes-clause-text
returns-else-at-bytes-clause-text c = no_text
