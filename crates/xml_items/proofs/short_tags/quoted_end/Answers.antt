use Rattle.std.proofs.Common.{arith}
use Rattle.xml_items.specs.ShortNames.{is_quoted}
use Rattle.xml_items.proofs.ShortTags.{run_more, quoted_more}
use Rattle.xml_items.proofs.short_tags.quoted_end.Goals as goal

pub run-preserved : goal.run-preserved
run-preserved c =
    let i = c.run.invariant in (
      omega (arith, i.0),
      omega (arith, c.run-test.true),
      run_more (is_quoted c.args.quote) c.args.bytes.now c.args.start c.run.end i.0 c.run-test.true i.2 (quoted_more c.args.quote _ c.if-bytes-end-lt128.true c.if-bytes-end.true),
    )
