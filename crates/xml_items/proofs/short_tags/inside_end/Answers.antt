use Rattle.std.proofs.Common.{sym, arith}
use Rattle.xml_items.specs.ShortNames.{is_inside}
use Rattle.xml_items.proofs.ShortTags.{run_more}
use Rattle.xml_items.proofs.QuickTags.{inside_more}
use Rattle.xml_items.proofs.short_tags.inside_end.Goals as goal

pub run-preserved : goal.run-preserved
run-preserved c =
    let i = c.run.invariant in (
      omega (arith, i.0),
      omega (arith, c.run-test.true),
      run_more (is_inside c.args.quote) c.args.bytes.now c.args.start c.run.end i.0 c.run-test.true i.2 (inside_more c.args.quote _ (sym c.if-is_plain.ensures) c.if-bytes-end.true),
    )
