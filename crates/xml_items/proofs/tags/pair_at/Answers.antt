use Rattle.std.proofs.Common.{◌∙◌, sym, ap, length}
use Rattle.std.proofs.lemmas.Bool.{eqb-true}
use Rattle.document_model.specs.Items.{pair_at}
use Rattle.xml_items.proofs.AsciiTexts.{chars_empty}
use Rattle.xml_items.proofs.tags.pair_at.Goals as goal

pub returns-then-is_empty-clause-pair : goal.returns-then-is_empty-clause-pair
returns-then-is_empty-clause-pair c = ap pair_at (chars_empty c.args.text.now (eqb-true (length c.args.text.now) 0 (sym c.is_empty.ensures ∙ c.if-is_empty.true)))
