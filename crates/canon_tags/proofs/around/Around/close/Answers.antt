use Rattle.std.proofs.Common.{[], ◌∙◌, ap, cond}
use Rattle.doc_spans.specs.Declarations.{nearest_first}
use Rattle.doc_spans.proofs.ScopeStacks.{rendered_left}
use Rattle.canon_tags.proofs.around.Around.close.Goals as goal

pub returns : goal.returns
returns c = λ before back.
    (λ i. record {
      outer = c.pop.ensures i;
      written = cond c.args.outside.below (c.pop.ensures i) [];
      rendered = (ap nearest_first c.truncate.ensures.items ∙ rendered_left c.args.self.now.rendered.items c.args.outside.rendered) i;
    })
    ∙ back
