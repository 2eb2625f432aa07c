use Rattle.std.proofs.Common.{◌∙◌, ap}
use Rattle.std.specs.Str.{chars, bytes_eq}
use Rattle.xml_items.specs.Found.{value_in}
use Rattle.doc_spans.proofs.ScopeSteps.{xmlns_text, xmlns_value}
use Rattle.doc_spans.proofs.scopes.is_xmlns_space.Goals as goal

pub same_values-requires-clause-second : goal.same_values-requires-clause-second
same_values-requires-clause-second c = xmlns_text

pub returns : goal.returns
returns c = c.same_values.ensures ∙ ap (bytes_eq (value_in (chars c.args.value.now))) xmlns_value
