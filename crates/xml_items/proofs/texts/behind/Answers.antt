use Rattle.std.proofs.Common.{◌∙◌, sym, ap, ◌++◌}
use Rattle.xml_items.proofs.AsciiTexts.{boundary_behind, starts_split, not_start}
use Rattle.xml_items.proofs.texts.behind.Goals as goal

pub split_at-requires : goal.split_at-requires
split_at-requires c = boundary_behind c.args.opening.now c.args.text.now c.requires c.utf8.text (sym c.if-starts.ensures)

pub returns-then-starts : goal.returns-then-starts
returns-then-starts c = starts_split c.args.opening.now c.args.text.now (sym c.if-starts.ensures) ∙ ap (λ x. c.args.opening.now ++ x) (sym c.split_at.ensures.back)

pub returns-else-starts : goal.returns-else-starts
returns-else-starts c = not_start c.args.opening.now c.args.text.now c.requires c.utf8.text (sym c.if-starts.ensures)
