use Rattle.xml_items.proofs.ShortTags.{short_name_utf8}
use Rattle.xml_items.proofs.short_tags.name_text.Goals as goal

pub utf8_part-requires-clause-utf8 : goal.utf8_part-requires-clause-utf8
utf8_part-requires-clause-utf8 c = short_name_utf8 _ c.requires.name
