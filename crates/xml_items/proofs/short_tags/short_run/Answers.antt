use Rattle.std.proofs.Common.{sym, arith}
use Rattle.xml_items.specs.ShortNames.{in_short}
use Rattle.xml_items.proofs.ShortTags.{run_more}
use Rattle.xml_items.proofs.short_tags.short_run.Goals as goal

pub run-preserved : goal.run-preserved
run-preserved c =
    let i = c.run.invariant in
    (omega (arith, i.0), omega (arith, c.run-test.true), run_more in_short c.args.bytes.now c.args.start c.run.end i.0 c.run-test.true i.2 (sym c.if-in_short.ensures))
