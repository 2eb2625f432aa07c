use Rattle.xml_items.proofs.AsciiTexts.{between_from}
use Rattle.xml_items.proofs.Stands.{placed_from}
use Rattle.xml_items.proofs.texts.between.Goals as goal

pub returns-in-Some-clause-inside : goal.returns-in-Some-clause-inside
returns-in-Some-clause-inside c =
    between_from (λ x. x.now) c.args.opening.now c.args.closing.now c.in-Some.rest.now c.args.text.now c.before-in-Some.result
    c.requires.opening c.requires.closing c.utf8.text c.in-Some.ensures c.before-in-Some.ensures

pub returns-in-Some-clause-placed : goal.returns-in-Some-clause-placed
returns-in-Some-clause-placed c = placed_from (λ x. x.now) _ c.args.opening.now c.args.closing.now c.in-Some.rest.now c.args.text.now c.before-in-Some.result c.in-Some.ensures c.before-in-Some.ensures
