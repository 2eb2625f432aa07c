use Rattle.canon_methods.proofs.ListWords.{at_end}
use Rattle.canon_methods.proofs.sought.is_found.Goals as goal

pub returns-in-Word : goal.returns-in-Word
returns-in-Word c = λ test word. at_end c.args.sought word c.in-Word.rest test c.is_empty.result c.in-Word.is c.is_empty.ensures
