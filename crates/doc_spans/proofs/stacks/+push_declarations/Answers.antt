use Rattle.std.proofs.Common.{◌∙◌}
use Rattle.std.specs.Str.{chars}
use Rattle.xml_items.specs.Attributes.{attribute_in, attributes_left}
use Rattle.doc_spans.specs.Declarations.{nearest_first}
use Rattle.doc_spans.proofs.ScopeStacks.{declared_more, nearest_push}
use Rattle.doc_spans.proofs.stacks.+push_declarations.Goals as goal

pub returns-in_ok-push-in-Some-declared_prefix-clause-scope : goal.returns-in_ok-push-in-Some-declared_prefix-clause-scope
returns-in_ok-push-in-Some-declared_prefix-clause-scope t c =
    nearest_push c.push_declarations.new.declarations.items c.push.new.self.items _ c.in_ok-push-in-Some-declared_prefix.ensures.items
    ∙ declared_more (attributes_left c.args.attributes) (attributes_left c.in-Some.behind) (attribute_in c.in-Some.a) (chars c.in-Some-declared_prefix.prefix.now)
    (nearest_first c.args.declarations.now.items) (nearest_first c.push_declarations.new.declarations.items) c.in-Some.ensures.first c.in-Some-declared_prefix.ensures c.in_ok-count-in-Some.ensures.scope
