use Rattle.std.proofs.Common.{◌∙◌, sym, ap, ◌++◌}
use Rattle.xml_items.proofs.AsciiTexts.{boundary_before, ends_split, not_end}
use Rattle.xml_items.proofs.texts.before.Goals as goal

pub split_at-requires : goal.split_at-requires
split_at-requires c = boundary_before c.args.closing.now c.args.text.now c.requires c.utf8.text (sym c.if-ends.ensures)

pub returns-then-ends : goal.returns-then-ends
returns-then-ends c = ends_split c.args.closing.now c.args.text.now (sym c.if-ends.ensures) ∙ ap (λ x. x ++ c.args.closing.now) (sym c.split_at.ensures.front)

pub returns-else-ends : goal.returns-else-ends
returns-else-ends c = not_end c.args.closing.now c.args.text.now (sym c.if-ends.ensures)
