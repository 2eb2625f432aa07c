use Rattle.std.proofs.Common.{◌∙◌, sym}
use Rattle.std.specs.Str.{bytes_eq}
use Rattle.xml_items.proofs.AsciiTexts.{chars_same}
use Rattle.xml_items.proofs.texts.is.Goals as goal

pub returns : goal.returns
returns c =
    c.eq.ensures ∙ (λ i. bytes_eq (c.as_bytes.ensures.value i) (c.as_bytes-2.ensures.value i)) ∙ sym (chars_same c.args.other.now c.args.text.now c.requires c.utf8.text)
