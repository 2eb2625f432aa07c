use Rattle.std.proofs.Common.{sym, ◌∙◌}
use Rattle.item_contents.proofs.Alone.{any_here, any_next}
use Rattle.item_contents.proofs.contents.has_archive_stamp.Goals as goal

pub returns-then-is_archive_stamp : goal.returns-then-is_archive_stamp
returns-then-is_archive_stamp c =
    sym (c.loop-number.invariant ∙ any_here c.args.parts.now.properties c.loop-number.number c.property_kind.result c.property_kind.ensures (sym c.is_archive_stamp.ensures ∙ c.if-is_archive_stamp.true))

pub loop-number-preserved : goal.loop-number-preserved
loop-number-preserved c =
    c.loop-number.invariant ∙ any_next c.args.parts.now.properties c.loop-number.number c.property_kind.result c.property_kind.ensures (sym c.is_archive_stamp.ensures ∙ c.if-is_archive_stamp.false)
