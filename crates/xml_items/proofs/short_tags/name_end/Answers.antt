use Rattle.std.proofs.Common.{sym, subst, arith}
use Rattle.xml_items.specs.ShortNames.{IsShortName}
use Rattle.xml_items.proofs.ShortTags.{name_of_one, name_of_two, two_parts}
use Rattle.xml_items.proofs.short_tags.name_end.Goals as goal

pub returns-then-behind-end-clause-name : goal.returns-then-behind-end-clause-name
returns-then-behind-end-clause-name c h =
    let front = c.part_end-front.result in
    subst IsShortName
    (sym (two_parts c.args.bytes.now c.args.start front c.part_end-end.result c.part_end-front.ensures.order (omega arith) (omega arith) c.if-bytes-front-eq58.true))
    (name_of_two _ _ (c.part_end-front.ensures.part c.if-start-front.true) (c.part_end-end.ensures.part c.if-behind-end.true))

pub returns-else-start-front-clause-name : goal.returns-else-start-front-clause-name
returns-else-start-front-clause-name c h = name_of_one _ (c.part_end-front.ensures.part h)
