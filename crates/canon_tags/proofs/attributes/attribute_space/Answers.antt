use Rattle.std.proofs.Common.{[], ◌∙◌, sym, ap, cond}
use Rattle.std.specs.Str.{chars}
use Rattle.doc_spans.proofs.ScopeSteps.{empty_value, empty_text}
use Rattle.doc_spans.specs.Looked.{declared}
use Rattle.doc_spans.specs.Scoped.{space_in}
use Rattle.canon_tags.proofs.attributes.attribute_space.Goals as goal

pub returns-then-is_empty-clause-value : goal.returns-then-is_empty-clause-value
returns-then-is_empty-clause-value c =
    empty_value ∙ sym (ap (λ b. cond b [] (space_in (chars c.args.prefix.now) (declared c.args.scope))) (sym c.is_empty.ensures ∙ c.if-is_empty.true))

pub returns-then-is_empty-clause-read : goal.returns-then-is_empty-clause-read
returns-then-is_empty-clause-read c = empty_text
