-- Scopes of declarations: Namespaces in XML 1.0, "Declaring Namespaces", "Using Qualified Names" and "Applying Namespaces to Elements
-- and Attributes".
use Rattle.std.specs.Prelude.{ℕ, Bool, true, false, not, ◌&&◌, ◌||◌, nat_le, if◌then◌else◌, List, [], ◌∷◌, length, map, Option, Some, None, codes, encode_utf8_all}
use Rattle.std.specs.List.{list_all}
use Rattle.std.specs.Option.{option_map_or}
use Rattle.document_model.specs.Characters.{◌is◌, is_empty}
use Rattle.document_model.specs.Names.{Name, Expanded, same_expanded}
use Rattle.document_model.specs.Items.{Attribute}
use Rattle.document_model.specs.Tree.{Node, Nodes, Path, Element, Text, Comment, Instruction, nth, below}

-- an element without what it holds
pub record Tag : Type 0 where
  pub name : Name
  pub attributes : List Attribute

abbrev pub xml_space : List ℕ
xml_space = codes "http://www.w3.org/XML/1998/namespace"

abbrev pub xmlns_space : List ℕ
xmlns_space = codes "http://www.w3.org/2000/xmlns/"

-- the prefix that an attribute declares, empty for the default, where it is a declaration
abbrev pub declared_prefix : Attribute → Option (List ℕ)
declared_prefix a =
    if is_empty a.name.prefix && (a.name.local is codes "xmlns") then Some []
    else (if a.name.prefix is codes "xmlns" then Some a.name.local else None)

abbrev pub declares : List ℕ → Attribute → Bool
declares prefix a = is_prefix_declared (declared_prefix a)
  where
    is_prefix_declared : Option (List ℕ) → Bool
    is_prefix_declared None = false
    is_prefix_declared (Some p) = p is prefix

-- the value of the first declaration of a prefix among attributes
abbrev pub declared_value : List ℕ → List Attribute → Option (List ℕ)
declared_value prefix [] = None
declared_value prefix (a ∷ attributes) = if declares prefix a then Some a.value else declared_value prefix attributes

abbrev pub value_or : Option (List ℕ) → List ℕ → List ℕ
value_or None value = value
value_or (Some x) value = x

-- the value of a prefix in the scope of elements, the innermost first; the empty text where it has none.
-- That of the nearest declaration counts
abbrev pub declared_space : List ℕ → List Tag → List ℕ
declared_space prefix [] = []
declared_space prefix (tag ∷ outer) = value_or (declared_value prefix tag.attributes) (declared_space prefix outer)

-- and the prefixes `xml` and `xmlns` are bound for all
abbrev pub space_of : List ℕ → List Tag → List ℕ
space_of prefix tags =
    if prefix is codes "xml" then xml_space
    else (if prefix is codes "xmlns" then xmlns_space else declared_space prefix tags)

-- the expanded names of an element and of an attribute: Namespaces in XML 1.0, "Namespace Defaulting": the default is not for attributes
abbrev pub element_name : List Tag → Name → Expanded
element_name tags name = record { space = space_of name.prefix tags; local = name.local }

abbrev pub attribute_name : List Tag → Name → Expanded
attribute_name tags name =
    record { space = if is_empty name.prefix then [] else space_of name.prefix tags; local = name.local }

-- The constraints "Reserved Prefixes and Namespace Names", "Prefix Declared", "No Prefix Undeclaring" and "Attributes Unique" of
-- Namespaces in XML 1.0

abbrev pub none_is : Expanded → List Expanded → Bool
none_is name names = list_all (λ other. not (same_expanded name other)) names

abbrev pub are_distinct : List Expanded → Bool
are_distinct [] = true
are_distinct (name ∷ names) = none_is name names && are_distinct names

-- the most bytes of a namespace name
abbrev pub longest_space : ℕ
longest_space = 4096

abbrev pub may_bind : List ℕ → List ℕ → Bool
may_bind prefix value =
    not (prefix is codes "xmlns")
    && (is_empty prefix || not (is_empty value))
    && (if prefix is codes "xml" then value is xml_space else not (value is xml_space))
    && not (value is xmlns_space)
    && nat_le (length (encode_utf8_all value)) longest_space

abbrev pub is_sound_declaration : Attribute → Bool
is_sound_declaration a = may_bind_if (declared_prefix a)
  where
    may_bind_if : Option (List ℕ) → Bool
    may_bind_if None = true
    may_bind_if (Some prefix) = may_bind prefix a.value

abbrev pub is_declared : List Tag → Name → Bool
is_declared tags name = is_empty name.prefix || not (is_empty (space_of name.prefix tags))

-- whether a tag's names and declarations are sound inside the elements around it, the innermost first
unfoldable pub is_sound : List Tag → Tag → Bool
is_sound outer tag =
    list_all is_sound_declaration tag.attributes
    && not (tag.name.prefix is codes "xmlns")
    && is_declared (tag ∷ outer) tag.name
    && list_all (λ a. is_declared (tag ∷ outer) a.name) tag.attributes
    && are_distinct (map (λ a. attribute_name (tag ∷ outer) a.name) tag.attributes)

-- The elements around a node, the innermost first

abbrev pub with_tag_of : Node → List Tag → List Tag
with_tag_of (Element name attributes nodes) outer = record { name = name; attributes = attributes } ∷ outer
with_tag_of (Text cs) outer = outer
with_tag_of (Comment cs) outer = outer
with_tag_of (Instruction target content) outer = outer

-- from a node to the node that a path leads to, which is not one of them itself
abbrev pub elements_down : Path → Node → List Tag → List Tag
elements_down [] node outer = outer
elements_down (k ∷ path) node outer =
    option_map_or (λ child. elements_down path child (with_tag_of node outer)) (nth k (below node)) outer

abbrev pub elements_around : Nodes → Path → List Tag
elements_around document [] = []
elements_around document (k ∷ path) = option_map_or (λ child. elements_down path child []) (nth k document) []

-- the elements in whose scope a node stands: those around it, and itself where it is an element
abbrev pub tags_down : Path → Node → List Tag → List Tag
tags_down [] node outer = with_tag_of node outer
tags_down (k ∷ path) node outer = option_map_or (λ child. tags_down path child (with_tag_of node outer)) (nth k (below node)) []

abbrev pub tags_at : Nodes → Path → List Tag
tags_at document [] = []
tags_at document (k ∷ path) = option_map_or (λ child. tags_down path child []) (nth k document) []

-- the expanded name of an element, in the scope of the elements around it
abbrev pub is_named : List Tag → Expanded → Node → Bool
is_named outer name (Element written attributes nodes) =
    same_expanded name (element_name (record { name = written; attributes = attributes } ∷ outer) written)
is_named outer name node = false

-- the value of an attribute of an element, by its expanded name
abbrev pub value_among : List Tag → Expanded → List Attribute → Option (List ℕ)
value_among tags name [] = None
value_among tags name (a ∷ attributes) =
    if same_expanded name (attribute_name tags a.name) then Some a.value else value_among tags name attributes

abbrev pub attribute_value : List Tag → Expanded → Node → Option (List ℕ)
attribute_value outer name (Element written attributes nodes) =
    value_among (record { name = written; attributes = attributes } ∷ outer) name attributes
attribute_value outer name node = None
