use Rattle.std.proofs.Common.{◌∙◌, arith}
use Rattle.xml_items.specs.Attributes.{attributes_left}
use Rattle.canon_tags.specs.Entries.{entries_in}
use Rattle.doc_spans.specs.Looked.{declared}
use Rattle.canon_tags.proofs.InheritedEntries.{first_step, next_step}
use Rattle.canon_tags.proofs.attributes.inherit.Goals as goal

pub tags-init : goal.tags-init
tags-init c = (omega arith, λ attributes h. first_step (declared c.args.scope) c.args.tags.now attributes (entries_in c.args.entries.now.items) h)

pub tags-preserved : goal.tags-preserved
tags-preserved c = (
  omega (arith, c.tags.invariant.0),
  λ attributes h.
      let before = c.tags.invariant.1 attributes h in
      let step = next_step (declared c.args.scope) c.args.tags.now c.tags.left c.index-tags-left.result (attributes_left c.of.result) (entries_in c.tags.entries.items) (entries_in c.inherit_from.new.entries.items)
      c.tags-test.true (omega (arith, c.tags.invariant.0, c.tags-test.true)) c.of.ensures before.0 c.in_ok-inherit_from.ensures in
      (step.named_all, before.1 ∙ step.same),
)
