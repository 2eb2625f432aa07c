use Rattle.std.proofs.Common.{drop}
use Rattle.xml_items.proofs.TextCharacters.{ordinary_front}
use Rattle.xml_items.proofs.runs.text_run.Goals as goal

pub returns-then-run-gt0-clause-utf8 : goal.returns-then-run-gt0-clause-utf8
returns-then-run-gt0-clause-utf8 c = (ordinary_front (drop c.args.at c.args.bytes.now) c.ordinary_run-run.result c.ordinary_run-run.ensures.run).0

pub returns-then-run-gt0-clause-text : goal.returns-then-run-gt0-clause-text
returns-then-run-gt0-clause-text c = (ordinary_front (drop c.args.at c.args.bytes.now) c.ordinary_run-run.result c.ordinary_run-run.ensures.run).1
