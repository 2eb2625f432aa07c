-- Attributes in the code.
use Rattle.std.specs.Prelude.{List, [], unwrap_or}
use Rattle.std.specs.Str.{chars}
use Rattle.document_model.specs.Items as items
use Rattle.xml_items.specs.Found.{read_attributes, value_in}
use Rattle.xml_items.specs.declared.attribute_walk.Attribute.{Attribute}
use Rattle.xml_items.specs.declared.attribute_walk.Attributes.{Attributes}

abbrev pub attribute_in : Attribute → items.Attribute
attribute_in a = record { name = record { prefix = chars a.prefix.now; local = chars a.local.now }; value = value_in (chars a.value.now) }

-- the attributes that are left
abbrev pub attributes_left : Attributes → List items.Attribute
attributes_left a = unwrap_or (read_attributes a.left (chars a.rest.now)) []
