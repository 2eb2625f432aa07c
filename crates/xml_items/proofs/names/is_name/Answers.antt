use Rattle.std.proofs.Common.{◌∙◌, sym, subst}
use Rattle.xml_items.specs.ShortNames.{IsShortName}
use Rattle.xml_items.proofs.ShortTags.{is_read_name}
use Rattle.xml_items.proofs.names.is_name.Goals as goal

pub returns-then-is_short_name : goal.returns-then-is_short_name
returns-then-is_short_name c =
    let name = subst IsShortName c.as_bytes.ensures.value (c.is_short_name.ensures c.if-is_short_name.true) in
    c.if-is_short_name.true ∙ sym (is_read_name c.args.text.now name)
