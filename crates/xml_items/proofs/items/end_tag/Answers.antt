use Rattle.std.proofs.Common.{codes}
use Rattle.xml_items.proofs.Stands.{front_stands}
use Rattle.xml_items.proofs.items.end_tag.Goals as goal

pub returns-clause-placed : goal.returns-clause-placed
returns-clause-placed c =
    let space = c.without_space_behind-name.ensures.placed in
    front_stands (codes "</") (codes ">") c.in_ok-inside.inside.now c.args.text.now c.in_ok-inside.ensures.placed c.without_space_behind-name.result.now space.0 space.1
