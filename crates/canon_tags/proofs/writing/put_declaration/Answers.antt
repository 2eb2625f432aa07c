use Rattle.std.proofs.Common.{◌++◌, ◌∙◌, sym, ap}
use Rattle.std.specs.Prelude.{encode_utf8_all}
use Rattle.std.specs.Str.{chars}
use Rattle.xml_items.specs.Found.{value_in}
use Rattle.canon_tags.proofs.WrittenTexts.{default_text, prefixed_text}
use Rattle.canon_tags.proofs.writing.put_declaration.Goals as goal

pub returns-in_ok-put_attribute : goal.returns-in_ok-put_attribute
returns-in_ok-put_attribute c =
    c.in_ok-put_attribute.ensures
    ∙ ap (λ x. c.args.out.now ++ encode_utf8_all x) (default_text c.args.prefix.now (value_in (chars c.args.value.now)) (sym c.is_empty.ensures ∙ c.if-is_empty.true))

pub returns-in_ok-put_attribute-2 : goal.returns-in_ok-put_attribute-2
returns-in_ok-put_attribute-2 c =
    c.in_ok-put_attribute-2.ensures
    ∙ ap (λ x. c.args.out.now ++ encode_utf8_all x) (prefixed_text c.args.prefix.now (value_in (chars c.args.value.now)) (sym c.is_empty.ensures ∙ c.if-is_empty.false) c.utf8.prefix)
