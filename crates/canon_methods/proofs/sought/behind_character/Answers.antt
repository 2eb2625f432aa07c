use Rattle.xml_items.proofs.AsciiTexts.{chars_empty}
use Rattle.canon_methods.proofs.ListWords.{goes_on, goes_wrong, goes_past, stays_other}
use Rattle.std.specs.Str.{chars}
use Rattle.canon_methods.proofs.sought.behind_character.Goals as goal

pub returns-then-c-d : goal.returns-then-c-d
returns-then-c-d c = λ test word cs. goes_on c.args.sought word c.in-Word.rest c.in-Some.further c.args.c c.in-Some.d test cs c.in-Word.is c.in-Some.ensures.chars c.if-c-d.true

pub returns-else-c-d : goal.returns-else-c-d
returns-else-c-d c = λ test word cs. goes_wrong c.args.sought word c.in-Word.rest c.args.c c.in-Some.d (chars c.in-Some.further.now) test cs c.in-Word.is c.in-Some.ensures.chars c.if-c-d.false

pub returns-in-None : goal.returns-in-None
returns-in-None c = λ test word cs. goes_past c.args.sought word c.in-Word.rest c.args.c test cs c.in-Word.is (chars_empty c.in-Word.rest.now c.in-None.ensures.chars)

pub returns-in-Other : goal.returns-in-Other
returns-in-Other c = λ test word cs. stays_other c.args.sought word c.args.c test cs c.in-Other.is
