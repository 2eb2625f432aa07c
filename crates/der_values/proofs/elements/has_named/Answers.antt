use Rattle.std.proofs.Common.{rules, tests}
use Rattle.std.specs.Str.{bytes_eq}
use Rattle.der_values.specs.Rules.{name_in}
use Rattle.std.proofs.lemmas.Iterator.Search.{any_from_yields_List}
use Rattle.std.proofs.lemmas.Iterator.Consumers.{YieldsList-from_first}
use Rattle.der_values.specs.View.{view, elements_left}
use Rattle.der_values.specs.Elements.{elements}
use Rattle.der_values.proofs.elements.has_named.Goals as goal

pub returns : goal.returns
returns c = any_from_yields_List (λ e. bytes_eq (name_in e) c.args.name.now) c.any.new.self _ _ c.any.ensures.ran (YieldsList-from_first view elements_left (elements c.args.content.now) (cc)) (λ x b q k. search (rules, tests))
