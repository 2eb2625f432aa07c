use Rattle.std.proofs.Common.{◌∙◌, sym, ap}
use Rattle.std.specs.Str.{chars}
use Rattle.document_model.specs.Characters.{is_empty}
use Rattle.xml_items.specs.Classes.{passes}
use Rattle.xml_items.proofs.AsciiTexts.{all_in_span, empty_chars}
use Rattle.xml_items.proofs.classes.all.Goals as goal

pub returns : goal.returns
returns c =
    c.is_empty.ensures ∙ sym (empty_chars c.front.result.1.now c.front.ensures.behind_utf8)
    ∙ sym (all_in_span (passes c.args.class) (chars c.args.text.now) ∙ ap (λ x. is_empty x.1) c.front.ensures.split)
