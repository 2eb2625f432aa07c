use Rattle.std.proofs.Common.{◌∙◌}
use Rattle.std.specs.Str.{bytes_eq}
use Rattle.xml_items.proofs.NameTexts.{names_same}
use Rattle.xml_items.proofs.names.same_name.Goals as goal

pub returns : goal.returns
returns c =
    c.eq.ensures ∙ (λ i. bytes_eq (c.as_bytes.ensures.value i) (c.as_bytes-2.ensures.value i)) ∙ names_same c.args.a.now c.args.b.now c.utf8.a c.utf8.b c.requires.first c.requires.second
