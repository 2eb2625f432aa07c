use Rattle.std.proofs.Common.{[], ◌∙◌, ap, cond}
use Rattle.std.specs.Str.{chars}
use Rattle.document_model.specs.Scopes.{space_of}
use Rattle.doc_spans.proofs.ScopeSteps.{empty_value, empty_text}
use Rattle.node_sets.specs.Scopes.{scope_of}
use Rattle.node_sets.proofs.scopes.attribute_space.Goals as goal

pub returns-then-is_empty-clause-value : goal.returns-then-is_empty-clause-value
returns-then-is_empty-clause-value c = empty_value ∙ ap (λ b. cond b [] (space_of (chars c.args.prefix.now) (scope_of c.args.doc c.args.node))) c.if-is_empty.ensures

pub returns-then-is_empty-clause-read : goal.returns-then-is_empty-clause-read
returns-then-is_empty-clause-read c = empty_text
