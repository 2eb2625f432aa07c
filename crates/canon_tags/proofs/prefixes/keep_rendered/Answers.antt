use Rattle.std.proofs.Common.{ap}
use Rattle.std.specs.Str.{chars}
use Rattle.document_model.specs.Canonical.{declared_as}
use Rattle.doc_spans.specs.Declarations.{nearest_first}
use Rattle.doc_spans.specs.Scoped.{space_in}
use Rattle.canon_tags.proofs.ScopeStacks.{keep_more}
use Rattle.canon_tags.proofs.prefixes.keep_rendered.Goals as goal

pub prefixes-preserved : goal.prefixes-preserved
prefixes-preserved c =
    keep_more (λ prefix. declared_as prefix (space_in prefix (nearest_first c.as_slice.result.now))) c.prefixes.found.items c.pop.new.self.items c.in-Some.prefix c.prefixes.rendered.items c.push.new.self.items _ _
    c.in-Some.ensures.items c.in_ok-push.ensures.items (ap (declared_as (chars c.in-Some.prefix.now)) c.space_of-value.ensures.value) c.prefixes.invariant
