use Rattle.std.proofs.Common.{true, false}
use Rattle.std.specs.Str.{chars}
use Rattle.xml_items.proofs.ItemTexts.{not_dashed, comment_from}
use Rattle.xml_items.proofs.items.comment.Goals as goal

pub returns-in_err-dashed-clause-item : goal.returns-in_err-dashed-clause-item
returns-in_err-dashed-clause-item c = absurd (not_dashed (chars c.args.text.now) (chars c.in_ok-inside.inside.now) c.in_ok-inside.ensures.inside c.in_err-dashed.ensures.inside)

pub returns-then-contains-clause-item : goal.returns-then-contains-clause-item
returns-then-contains-clause-item c = comment_from (chars c.args.text.now) (chars c.in_ok-inside.inside.now) (chars c.in_ok-dashed.dashed.now) true c.in_ok-inside.ensures.inside c.in_ok-dashed.ensures.inside c.if-contains.ensures

pub returns-clause-item : goal.returns-clause-item
returns-clause-item c = comment_from (chars c.args.text.now) (chars c.in_ok-inside.inside.now) (chars c.in_ok-dashed.dashed.now) false c.in_ok-inside.ensures.inside c.in_ok-dashed.ensures.inside c.if-contains.ensures
