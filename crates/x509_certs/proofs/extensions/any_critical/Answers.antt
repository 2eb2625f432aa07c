use Rattle.std.proofs.Common.{rules, tests}
use Rattle.std.proofs.lemmas.Iterator.Search.{any_from_yields_List}
use Rattle.std.proofs.lemmas.Iterator.Consumers.{YieldsList-from_first}
use Rattle.der_values.specs.View.{view, elements_left}
use Rattle.der_values.specs.Elements.{elements}
use Rattle.x509_certs.specs.Extensions.{is_critical}
use Rattle.x509_certs.proofs.extensions.any_critical.Goals as goal

pub returns : goal.returns
returns c = any_from_yields_List is_critical c.any.new.self _ _ c.any.ensures.ran (YieldsList-from_first view elements_left (elements c.args.extensions.now) (cc)) (λ x b q k. search (rules, tests))
