use Rattle.std.proofs.Common.{sym, arith}
use Rattle.xml_items.proofs.ShortTags.{part_more}
use Rattle.xml_items.proofs.short_tags.part_end.Goals as goal

pub part-preserved : goal.part-preserved
part-preserved c =
    let i = c.part.invariant in
    (omega (arith, i.0), omega (arith, c.part-test.true), part_more c.args.bytes.now c.args.start c.part.end i.0 c.part-test.true i.2 (sym c.if-continues_short.ensures))
