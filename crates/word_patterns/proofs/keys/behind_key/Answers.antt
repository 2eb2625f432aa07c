use Rattle.word_patterns.proofs.KeyTexts.{behind_text}
use Rattle.word_patterns.proofs.keys.behind_key.Goals as goal

pub returns : goal.returns
returns c = behind_text c.args.key.now c.args.word.now c.strip_prefix.result c.strip_prefix.ensures.cases
