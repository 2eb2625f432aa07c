use Rattle.std.proofs.Common.{sym, arith}
use Rattle.xml_items.specs.ShortNames.{is_simple}
use Rattle.xml_items.proofs.ShortTags.{run_more}
use Rattle.xml_items.proofs.QuickTags.{simple_more}
use Rattle.xml_items.proofs.short_tags.simple_end.Goals as goal

pub run-preserved : goal.run-preserved
run-preserved c =
    let i = c.run.invariant in (
      omega (arith, i.0),
      omega (arith, c.run-test.true),
      run_more (is_simple c.args.quote) c.args.bytes.now c.args.start c.run.end i.0 c.run-test.true i.2 (simple_more c.args.quote _ (sym c.if-is_ordinary.ensures) c.if-bytes-end.true),
    )
