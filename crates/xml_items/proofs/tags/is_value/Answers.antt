use Rattle.std.proofs.Common.{◌∙◌, sym, ap}
use Rattle.std.specs.List.{list_all}
use Rattle.xml_items.specs.Runs.{is_ordinary}
use Rattle.xml_items.proofs.PlainTexts.{ordinary_value}
use Rattle.xml_items.proofs.tags.is_value.Goals as goal

pub returns-then-are_ordinary : goal.returns-then-are_ordinary
returns-then-are_ordinary c =
    c.if-are_ordinary.true
    ∙ sym (ordinary_value c.args.text.now (ap (list_all is_ordinary) (sym c.as_bytes.ensures.value) ∙ sym c.are_ordinary.ensures ∙ c.if-are_ordinary.true))
