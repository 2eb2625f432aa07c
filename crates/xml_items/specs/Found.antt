-- What the parts of an item mean that a scanner finds.
use Rattle.std.specs.Prelude.{ℕ, List, [], Option, unwrap_or, option_and_then, is_some, IsTrue}
use Rattle.std.specs.Str.{chars}
use Rattle.document_model.specs.Names.{Name, name_of}
use Rattle.document_model.specs.Items.{Attribute, attribute_of, each_of, pairs_of, most_attributes, value_of}

abbrev pub no_name : Name
no_name = record { prefix = []; local = [] }

-- the name that a text spells, where it is one
abbrev pub name_in : List ℕ → Name
name_in text = unwrap_or (name_of text) no_name

-- the attributes of a text that is pairs and no more, of at most n
abbrev pub read_attributes : ℕ → List ℕ → Option (List Attribute)
read_attributes n text = option_and_then (each_of attribute_of) (pairs_of n text)

-- the attributes that a text spells, where it spells some
abbrev pub attributes_in : List ℕ → List Attribute
attributes_in text = unwrap_or (read_attributes most_attributes text) []

-- bytes that spell a name, and bytes that spell the attributes of a tag
abbrev pub IsNameText : List ℕ → Type 0
IsNameText bytes = IsTrue (is_some (name_of (chars bytes)))

abbrev pub AreAttributesText : List ℕ → Type 0
AreAttributesText bytes = IsTrue (is_some (read_attributes most_attributes (chars bytes)))

-- the value that a text between quotes spells, where it spells one
abbrev pub value_in : List ℕ → List ℕ
value_in text = unwrap_or (value_of text) []

abbrev pub IsValueText : List ℕ → Type 0
IsValueText bytes = IsTrue (is_some (value_of (chars bytes)))
