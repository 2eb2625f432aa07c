-- An item in the code.
use Rattle.std.specs.Str.{chars}
use Rattle.document_model.specs.Characters.{with_line_ends}
use Rattle.document_model.specs.Items as items
use Rattle.document_model.specs.Items.{Item}
use Rattle.xml_items.specs.Found.{name_in, attributes_in, IsNameText, AreAttributesText}
use Rattle.xml_items.specs.declared.items.Found as code
use Rattle.xml_items.specs.declared.items.Found.TheVariants.{Declaration, StartTag, EmptyTag, EndTag, Character, Reference, Cdata, Comment, Instruction}

abbrev pub item_in : code.Found → Item
item_in Declaration = items.declaration
item_in (StartTag name attributes) = items.start_tag (name_in (chars name.now)) (attributes_in (chars attributes.now))
item_in (EmptyTag name attributes) = items.empty_tag (name_in (chars name.now)) (attributes_in (chars attributes.now))
item_in (EndTag name) = items.end_tag (name_in (chars name.now))
item_in (Character c) = items.character c
item_in (Reference c) = items.reference c
item_in (Cdata text) = items.cdata (with_line_ends (chars text.now))
item_in (Comment text) = items.comment (with_line_ends (chars text.now))
item_in (Instruction target content) = items.instruction (chars target.now) (with_line_ends (chars content.now))

-- the names and the attributes of a tag are read, so a second pass meets no fault
abbrev pub IsRead : code.Found → Type 0
IsRead Declaration = Unit {0}
IsRead (StartTag name attributes) = IsNameText name.now × AreAttributesText attributes.now
IsRead (EmptyTag name attributes) = IsNameText name.now × AreAttributesText attributes.now
IsRead (EndTag name) = IsNameText name.now
IsRead (Character c) = Unit {0}
IsRead (Reference c) = Unit {0}
IsRead (Cdata text) = Unit {0}
IsRead (Comment text) = Unit {0}
IsRead (Instruction target content) = Unit {0}
