use Rattle.std.proofs.Common.{◌∙◌, ◌++◌, sym, ap}
use Rattle.std.specs.Str.{chars}
use Rattle.canon_methods.specs.Words.{parts}
use Rattle.canon_methods.specs.Sought.{holds}
use Rattle.xml_items.proofs.AsciiTexts.{chars_empty}
use Rattle.canon_methods.proofs.sought.behind_text.Goals as goal

pub returns-in-None : goal.returns-in-None
returns-in-None c = λ cs.
    ap (λ x. holds (parts c.args.by_commas) (chars c.args.word.now) c.characters.now (x ++ cs)) (sym (chars_empty c.characters.rest.now c.in-None.ensures.chars)) ∙ c.characters.invariant.1 cs
