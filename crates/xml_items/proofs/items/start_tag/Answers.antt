use Rattle.std.proofs.Common.{codes}
use Rattle.xml_items.proofs.Stands.{tag_stands}
use Rattle.xml_items.proofs.items.start_tag.Goals as goal

pub returns-in-Some-clause-placed : goal.returns-in-Some-clause-placed
returns-in-Some-clause-placed c =
    tag_stands (λ r. r.0.now) (λ r. r.1.now) (codes "<") (codes ">") c.in-Some.inside.now c.args.text.now c.tag.result c.in-Some.ensures.placed c.tag.ensures.placed
