-- The start tag of an element, in the code.
use Rattle.std.specs.Str.{chars}
use Rattle.document_model.specs.Scopes.{Tag}
use Rattle.xml_items.specs.Found.{name_in, attributes_in}
use Rattle.doc_spans.specs.declared.open_tags.OpenTag.{OpenTag}

abbrev pub tag_in : OpenTag → Tag
tag_in tag = record { name = name_in (chars tag.name.now); attributes = attributes_in (chars tag.attributes.now) }
