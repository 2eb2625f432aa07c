use Rattle.std.proofs.Common.{◌∙◌, sym}
use Rattle.std.specs.Str.{chars}
use Rattle.doc_spans.specs.Looked.{declared}
use Rattle.doc_spans.proofs.ScopeSteps.{empty_value, empty_text}
use Rattle.doc_spans.proofs.Lookups.{value_found, no_value_found}
use Rattle.doc_spans.proofs.declarations.Declared.value_or_none.Goals as goal

pub returns-in-Some-clause-value : goal.returns-in-Some-clause-value
returns-in-Some-clause-value c = sym (value_found (chars c.args.prefix.now) (declared c.args.self.now) _ c.in-Some.ensures.value)

pub returns-in-None-clause-value : goal.returns-in-None-clause-value
returns-in-None-clause-value c = empty_value ∙ sym (no_value_found (chars c.args.prefix.now) (declared c.args.self.now) c.in-None.ensures.value)

pub returns-in-None-clause-read : goal.returns-in-None-clause-read
returns-in-None-clause-read c = empty_text
