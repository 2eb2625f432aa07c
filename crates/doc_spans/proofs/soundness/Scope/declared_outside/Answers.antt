use Rattle.std.proofs.Common.{◌∙◌, sym, ap}
use Rattle.std.specs.Str.{chars}
use Rattle.document_model.specs.Canonical.{rendered_value}
use Rattle.doc_spans.specs.Declarations.{nearest_first}
use Rattle.doc_spans.specs.Scopes.{tags_around}
use Rattle.doc_spans.proofs.ScopeLists.{declared_same}
use Rattle.doc_spans.proofs.soundness.Scope.declared_outside.Goals as goal

pub returns-clause-value : goal.returns-clause-value
returns-clause-value c =
    let outer = c.args.self.now.outer.now in
    c.value_or_none.ensures.value
    ∙ ap (λ ds. rendered_value (chars c.args.prefix.now) (nearest_first ds)) c.as_slice.ensures.value
    ∙ ap (rendered_value (chars c.args.prefix.now)) outer.scoped
    ∙ sym (declared_same (chars c.args.prefix.now) (tags_around outer))
