use Rattle.std.proofs.Common.{◌∙◌, sym, ap}
use Rattle.std.specs.List.{list_all}
use Rattle.xml_items.specs.Texts.{is_plain}
use Rattle.xml_items.proofs.PlainTexts.{plain_characters}
use Rattle.xml_items.proofs.texts.are_characters.Goals as goal

pub returns-then-are_plain : goal.returns-then-are_plain
returns-then-are_plain c =
    c.if-are_plain.true
    ∙ sym (plain_characters c.args.text.now (ap (list_all is_plain) (sym c.as_bytes.ensures.value) ∙ sym c.are_plain.ensures ∙ c.if-are_plain.true))
