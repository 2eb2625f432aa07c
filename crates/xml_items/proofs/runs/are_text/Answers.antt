use Rattle.std.proofs.Common.{◌∙◌, sym, ap}
use Rattle.std.specs.List.{list_all}
use Rattle.xml_items.specs.Runs.{is_common}
use Rattle.xml_items.proofs.CommonTexts.{common_text}
use Rattle.xml_items.proofs.runs.are_text.Goals as goal

pub returns-then-are_common : goal.returns-then-are_common
returns-then-are_common c e = common_text c.args.text.now c.utf8.text (ap (list_all is_common) (sym c.as_bytes.ensures.value) ∙ c.are_common.ensures e)
