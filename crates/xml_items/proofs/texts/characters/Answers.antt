use Rattle.std.proofs.Common.{sym}
use Rattle.xml_items.proofs.FirstCharacters.{characters_all, characters_other, characters_none}
use Rattle.xml_items.proofs.texts.characters.Goals as goal

pub returns-then-are_characters : goal.returns-then-are_characters
returns-then-are_characters c =
    let e = c.in-Ok.ensures.cases.0 in
    (e, rw e (characters_all c.args.bytes.now c.in-Ok.ensures.cases.1 (rw (← e) (sym c.if-are_characters.ensures))))

pub returns-else-are_characters : goal.returns-else-are_characters
returns-else-are_characters c =
    let e = c.in-Ok.ensures.cases.0 in
    characters_other c.args.bytes.now c.in-Ok.ensures.cases.1 (rw (← e) (sym c.if-are_characters.ensures))

pub returns-in-Err : goal.returns-in-Err
returns-in-Err c = characters_none c.args.bytes.now c.in-Err.ensures.cases.0
