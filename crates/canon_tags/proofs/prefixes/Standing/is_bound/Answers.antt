use Rattle.std.proofs.Common.{◌∙◌, sym}
use Rattle.std.specs.Str.{chars}
use Rattle.doc_spans.specs.Looked.{declared}
use Rattle.canon_tags.proofs.Lookups.{bound_there, bound_else, some_map}
use Rattle.canon_tags.proofs.prefixes.Standing.is_bound.Goals as goal

pub returns-then-is_some : goal.returns-then-is_some
returns-then-is_some c =
    bound_there (chars c.args.prefix.now) (declared c.args.self.now.scope) _ c.is_some.result c.value_of.ensures.value (c.is_some.ensures ∙ sym (some_map _ c.value_of.result)) c.if-is_some.true

pub returns-else-is_some : goal.returns-else-is_some
returns-else-is_some c =
    c.is_empty.ensures
    ∙ bound_else (chars c.args.prefix.now) (declared c.args.self.now.scope) _ c.is_some.result c.value_of.ensures.value (c.is_some.ensures ∙ sym (some_map _ c.value_of.result)) c.if-is_some.false
