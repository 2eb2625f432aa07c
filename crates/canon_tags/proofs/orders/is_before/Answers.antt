use Rattle.std.proofs.Common.{sym, ◌∙◌}
use Rattle.std.specs.Str.{chars}
use Rattle.xml_items.proofs.AsciiTexts.{chars_empty}
use Rattle.canon_tags.proofs.Ordered.{ended_first, ended_second}
use Rattle.canon_tags.proofs.orders.is_before.Goals as goal

pub returns-in-None-first : goal.returns-in-None-first
returns-in-None-first c =
    sym (c.characters.invariant.2 ∙ ended_first (chars c.characters.x.now) (chars c.characters.y.now) _ _ (chars_empty c.characters.x.now c.in-None-first.ensures.chars) c.in-Some.ensures.chars)

pub returns-in-None : goal.returns-in-None
returns-in-None c =
    sym (c.characters.invariant.2 ∙ ended_second (chars c.characters.x.now) (chars c.characters.y.now) (chars_empty c.characters.y.now c.in-None.ensures.chars))
