use Rattle.std.proofs.Common.{Some, sym, ap, ◌∙◌}
use Rattle.std.specs.Str.{chars}
use Rattle.doc_spans.proofs.ScopeSteps.{xml_value, xml_text, xmlns_value, xmlns_text, xml_bound, xmlns_bound}
use Rattle.doc_spans.proofs.scopes.bound_space.Goals as goal

pub returns-then-is-clause-value : goal.returns-then-is-clause-value
returns-then-is-clause-value c = ap Some xml_value ∙ xml_bound (chars c.args.prefix.now) (sym c.is.ensures ∙ c.if-is.true)

pub returns-then-is-clause-read : goal.returns-then-is-clause-read
returns-then-is-clause-read c = xml_text

pub returns-then-is-2-clause-value : goal.returns-then-is-2-clause-value
returns-then-is-2-clause-value c = ap Some xmlns_value ∙ xmlns_bound (chars c.args.prefix.now) (sym c.is.ensures ∙ c.if-is.false) (sym c.is-else-is.ensures ∙ c.if-is-2.true)

pub returns-then-is-2-clause-read : goal.returns-then-is-2-clause-read
returns-then-is-2-clause-read c = xmlns_text
