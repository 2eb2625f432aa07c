use Rattle.std.proofs.Common.{[], ◌∙◌, sym, ap, cond}
use Rattle.std.specs.Str.{chars}
use Rattle.document_model.specs.Scopes.{space_of}
use Rattle.doc_spans.specs.ScopesIn.{scope_in}
use Rattle.doc_spans.proofs.ScopeSteps.{empty_value, empty_text}
use Rattle.doc_spans.proofs.tabled.Known.attribute_space.Goals as goal

pub returns-then-is_empty-clause-value : goal.returns-then-is_empty-clause-value
returns-then-is_empty-clause-value c =
    empty_value ∙ sym (ap (λ b. cond b [] (space_of (chars c.args.prefix.now) (scope_in c.args.self.now.scope))) (sym c.is_empty.ensures ∙ c.if-is_empty.true))

pub returns-then-is_empty-clause-read : goal.returns-then-is_empty-clause-read
returns-then-is_empty-clause-read c = empty_text
