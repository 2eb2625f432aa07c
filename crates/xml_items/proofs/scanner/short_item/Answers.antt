use Rattle.std.proofs.Common.{sym}
use Rattle.xml_items.proofs.ShortItems.{ordinary_at, line_end_at}
use Rattle.xml_items.proofs.scanner.short_item.Goals as goal

pub returns-then-is_ordinary-clause-item : goal.returns-then-is_ordinary-clause-item
returns-then-is_ordinary-clause-item c = ordinary_at c.args.bytes.now c.args.at c.if-at-bytes.true (sym c.if-is_ordinary.ensures)

pub returns-then-bytes-at-eq10-clause-item : goal.returns-then-bytes-at-eq10-clause-item
returns-then-bytes-at-eq10-clause-item c = line_end_at c.args.bytes.now c.args.at c.if-at-bytes-2.true c.if-bytes-at-eq13.true c.if-bytes-at-eq10.true
