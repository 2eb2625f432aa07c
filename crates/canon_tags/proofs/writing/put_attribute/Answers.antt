use Rattle.std.proofs.Common.{◌++◌, ◌∙◌, ap}
use Rattle.std.specs.Prelude.{flat_map, encode_utf8_all}
use Rattle.std.specs.Str.{chars}
use Rattle.document_model.specs.Names.{spelled_with}
use Rattle.document_model.specs.Canonical.{value_character}
use Rattle.xml_items.specs.Found.{value_in}
use Rattle.canon_tags.proofs.WrittenTexts.{five_put}
use Rattle.canon_tags.proofs.writing.put_attribute.Goals as goal

pub returns : goal.returns
returns c =
    five_put c.args.out.now c.push_all.new.self c.put_name.new.out c.push_all-2.new.self c.put_value.new.out c.push_all-3.new.self
    (spelled_with (chars c.args.prefix.now) (chars c.args.local.now)) (flat_map value_character (value_in (chars c.args.value.now)))
    c.in_ok-push_all.ensures.ok c.in_ok-put_name.ensures c.in_ok-push_all-2.ensures.ok
    (c.in_ok-put_value.ensures.ok ∙ ap (λ x. c.push_all-2.new.self ++ encode_utf8_all (flat_map value_character x)) c.of_value.ensures) c.in_ok-push_all-3.ensures.ok
