-- The attributes and declarations of an element, one after another.
use Rattle.std.specs.Prelude.{List, [], unwrap_or}
use Rattle.std.specs.Str.{chars}
use Rattle.document_model.specs.Items.{Attribute}
use Rattle.xml_items.specs.Found.{name_in, read_attributes}
use Rattle.doc_spans.specs.declared.attributes.Attr.{Attr}
use Rattle.doc_spans.specs.declared.attributes.Attrs.{Attrs}
use Rattle.doc_spans.specs.Pieces.{characters_left}

-- an attribute as the definitions have it: its name is a name (each `Attr` says so), and its value is what the pieces give
abbrev pub attribute_in : Attr → Attribute
attribute_in a = record { name = name_in (chars a.name.now); value = characters_left a.value }

-- the attributes that are left
abbrev pub attributes_left : Attrs → List Attribute
attributes_left attrs = unwrap_or (read_attributes attrs.left (chars attrs.rest.now)) []
