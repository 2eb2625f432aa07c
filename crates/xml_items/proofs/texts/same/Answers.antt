use Rattle.std.proofs.Common.{◌∙◌}
use Rattle.std.specs.Str.{bytes_eq}
use Rattle.xml_items.proofs.AsciiTexts.{texts_same}
use Rattle.xml_items.proofs.texts.same.Goals as goal

pub returns : goal.returns
returns c = c.eq.ensures ∙ (λ i. bytes_eq (c.as_bytes.ensures.value i) (c.as_bytes-2.ensures.value i)) ∙ texts_same c.args.a.now c.args.b.now c.utf8.a c.utf8.b
