use Rattle.std.proofs.Common.{◌∙◌, sym}
use Rattle.xml_items.proofs.AsciiTexts.{empty_chars}
use Rattle.xml_items.proofs.texts.is_empty.Goals as goal

pub returns : goal.returns
returns c = c.is_empty.ensures ∙ sym (empty_chars c.args.text.now c.utf8.text)
