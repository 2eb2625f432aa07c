use Rattle.std.proofs.lemmas.Str.{IsUtf8-from_ascii}
use Rattle.xml_items.proofs.AsciiTexts.{ascii_from}
use Rattle.xml_items.proofs.short_tags.ascii_text.Goals as goal

pub utf8_part-requires-clause-utf8 : goal.utf8_part-requires-clause-utf8
utf8_part-requires-clause-utf8 c = IsUtf8-from_ascii _ (ascii_from _ c.requires.ascii)
