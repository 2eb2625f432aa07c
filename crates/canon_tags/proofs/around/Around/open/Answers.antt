use Rattle.std.proofs.Common.{◌∙◌, ◌++◌, ap, refl, arith}
use Rattle.doc_spans.specs.OpenTags.{tag_in}
use Rattle.canon_tags.specs.Around.{around_in, found_in}
use Rattle.doc_spans.specs.Declarations.{declaration_in, nearest_first}
use Rattle.canon_tags.proofs.Entering.{leads_back}
use Rattle.doc_spans.proofs.StackLists.{stacked_length}
use Rattle.canon_tags.proofs.around.Around.open.Goals as goal

pub returns-in-Ok-clause-back : goal.returns-in-Ok-clause-back
returns-in-Ok-clause-back c =
    leads_back (record { below = c.args.self.now.below; rendered = c.len.result }) (around_in c.render.new.self) (around_in c.args.self.now) (tag_in c.args.tag) (found_in c.enter.new.self)
    (c.in-Ok.ensures.outer ∙ c.in_default.ensures.outer) refl
    (c.in-Ok.ensures.rendered ∙ ap (λ x. found_in c.enter.new.self ++ nearest_first x) c.in_default.ensures.rendered)
    (omega (arith, c.len.ensures, stacked_length declaration_in c.args.self.now.rendered.items))
