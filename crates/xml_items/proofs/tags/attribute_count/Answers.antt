use Rattle.std.proofs.Common.{arith}
use Rattle.std.specs.Str.{chars}
use Rattle.xml_items.proofs.Attributes.{counts_none, counts_more, counts_all, counts_full}
use Rattle.xml_items.proofs.tags.attribute_count.Goals as goal

pub loop-count-init : goal.loop-count-init
loop-count-init c = (c.utf8.attributes, counts_none (chars c.args.attributes.now) c.requires)

pub loop-count-preserved : goal.loop-count-preserved
loop-count-preserved c = (
  c.in-Some.ensures.utf8,
  counts_more (chars c.args.attributes.now) (chars c.loop-count.rest.now) (chars c.in-Some.behind.now) _ c.loop-count.count (omega arith) c.loop-count.invariant.1 c.in-Some.ensures.pair,
)

pub returns-in-None-clause-count : goal.returns-in-None-clause-count
returns-in-None-clause-count c = counts_all (chars c.args.attributes.now) (chars c.loop-count.rest.now) c.loop-count.count c.loop-count.invariant.1 c.in-None.ensures.pair

pub returns-clause-count : goal.returns-clause-count
returns-clause-count c = counts_full (chars c.args.attributes.now) (chars c.loop-count.rest.now) c.loop-count.count (omega arith) c.loop-count.invariant.1
