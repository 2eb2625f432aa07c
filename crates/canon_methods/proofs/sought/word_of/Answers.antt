use Rattle.std.proofs.Common.{◌∙◌, sym}
use Rattle.canon_methods.proofs.ListWords.{default_word}
use Rattle.canon_methods.proofs.sought.word_of.Goals as goal

pub returns-then-is_empty : goal.returns-then-is_empty
returns-then-is_empty c = default_word c.args.prefix.now (sym c.is_empty.ensures ∙ c.if-is_empty.true)
