use Rattle.std.proofs.Common.{Some, None, ◌∙◌}
use Rattle.std.specs.Str.{chars}
use Rattle.xml_items.specs.Found.{value_in}
use Rattle.doc_spans.specs.ScopesIn.{scope_in}
use Rattle.doc_spans.proofs.ScopeSteps.{space_by_bound}
use Rattle.doc_spans.proofs.tabled.Known.space_of.Goals as goal

pub returns-in-Some-clause-value : goal.returns-in-Some-clause-value
returns-in-Some-clause-value c = space_by_bound (chars c.args.prefix.now) (scope_in c.args.self.now.scope) (Some (value_in (chars c.in-Some.space.now))) c.in-Some.ensures.value

pub returns-in-None-clause-value : goal.returns-in-None-clause-value
returns-in-None-clause-value c = c.declared_space.ensures.value ∙ space_by_bound (chars c.args.prefix.now) (scope_in c.args.self.now.scope) None c.in-None.ensures.value
