use Rattle.std.proofs.Common.{Some, sym, ap, ◌∙◌}
use Rattle.std.proofs.lemmas.Str.{chars-nil}
use Rattle.xml_items.specs.Attributes.{attribute_in}
use Rattle.doc_spans.proofs.ScopeSteps.{default_prefix}
use Rattle.doc_spans.proofs.scopes.declared_prefix.Goals as goal

pub returns-then-is : goal.returns-then-is
returns-then-is c =
    default_prefix (attribute_in c.args.a) (sym c.is_empty.ensures ∙ c.if-is_empty.true) (sym c.is.ensures ∙ c.if-is.true) ∙ ap Some (sym chars-nil)
