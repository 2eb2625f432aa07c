-- Attributes with their expanded names.
use Rattle.std.specs.Prelude.{ℕ, Bool, not, ◌&&◌, if◌then◌else◌, List, [], map, filter, flat_map}
use Rattle.std.specs.Str.{chars}
use Rattle.document_model.specs.Characters.{is_empty}
use Rattle.document_model.specs.Names.{Expanded, spelled}
use Rattle.document_model.specs.Items.{Attribute}
use Rattle.document_model.specs.Canonical.{is_name_before, is_declaration, is_xml, has_local, attribute_text}
use Rattle.xml_items.specs.Found.{value_in}
use Rattle.doc_spans.specs.Scoped.{space_in}
use Rattle.canon_tags.specs.declared.entries.Entry.{Entry}

pub record Named : Type 0 where
  pub name : Expanded
  pub attribute : Attribute

abbrev pub entry_in : Entry → Named
entry_in e = record {
  name = record { space = value_in (chars e.space.now); local = chars e.local.now };
  attribute = record { name = record { prefix = chars e.prefix.now; local = chars e.local.now }; value = value_in (chars e.value.now) };
}

abbrev pub entries_in : List Entry → List Named
entries_in es = map entry_in es

-- an attribute with its expanded name, by the declarations in scope
abbrev pub named : List Attribute → Attribute → Named
named scope a = record {
  name = record { space = if is_empty a.name.prefix then [] else space_in a.name.prefix scope; local = a.name.local };
  attribute = a;
}

abbrev pub is_named_before : Named → Named → Bool
is_named_before a b = is_name_before a.name b.name

-- attributes that are no declarations
abbrev pub plain_ones : List Attribute → List Attribute
plain_ones attributes = filter (λ a. not (is_declaration a)) attributes

abbrev pub attributes_of_entries : List Named → List Attribute
attributes_of_entries entries = map (λ e. e.attribute) entries

-- the `xml:` attributes of a tag whose names none of the others has
abbrev pub inherited_of : List Attribute → List Attribute → List Attribute
inherited_of others attributes = filter (λ a. is_xml a && not (has_local a.name.local others)) attributes

abbrev pub entries_text : List Named → List ℕ
entries_text entries = flat_map (λ e. attribute_text (spelled e.attribute.name) e.attribute.value) entries
