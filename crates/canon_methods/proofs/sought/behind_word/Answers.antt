use Rattle.std.proofs.Common.{◌∙◌, sym}
use Rattle.std.specs.Str.{chars}
use Rattle.canon_methods.proofs.ListWords.{ended_word, other_word, next_word}
use Rattle.canon_methods.proofs.sought.behind_word.Goals as goal

pub returns-then-is_empty : goal.returns-then-is_empty
returns-then-is_empty c = λ test cs. ended_word c.args.sought (chars c.args.word.now) c.in-Word.rest test cs c.in-Word.is (sym c.is_empty.ensures ∙ c.if-is_empty.true)

pub returns-else-is_empty : goal.returns-else-is_empty
returns-else-is_empty c = λ test cs. other_word c.args.sought c.args.word c.in-Word.rest test cs c.in-Word.is (sym c.is_empty.ensures ∙ c.if-is_empty.false)

pub returns-in-Other : goal.returns-in-Other
returns-in-Other c = λ test cs. next_word c.args.sought c.args.word test cs c.in-Other.is
