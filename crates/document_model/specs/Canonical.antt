-- Canonical text: Canonical XML 1.0 and Exclusive XML Canonicalization 1.0. A text here is a list of characters; its octets are their UTF-8.
use Rattle.std.specs.Prelude.{ℕ, zero, suc, Bool, true, false, not, ◌&&◌, ◌||◌, ◌==◌, nat_lt, if◌then◌else◌, List, [], ◌∷◌, ◌++◌, map, filter, flat_map, codes, encode_utf8_all}
use Rattle.std.specs.List.{list_any}
use Rattle.std.specs.Option.{option_map_or}
use Rattle.document_model.specs.Characters.{◌is◌, is_empty}
use Rattle.document_model.specs.Names.{Expanded, spelled}
use Rattle.document_model.specs.Items.{Attribute}
use Rattle.document_model.specs.Tree.{Node, Nodes, Path, Element, Text, Comment, Instruction, no_nodes, ◌⨾◌, count}
use Rattle.document_model.specs.Scopes.{Tag, space_of, attribute_name, declared_prefix, elements_around}
use Rattle.document_model.specs.NodeSets.{NodeSet, part}

-- which namespace declarations are written: all in scope, or those that are used and those of a list of prefixes
-- (the empty text in the list stands for the default)
pub data Rule : Type 0 where
  Inclusive : Rule
  Exclusive : (prefixes : List (List ℕ)) → Rule

-- a canonical form: XML Signature 1.1, "Canonicalization Algorithms"; Exclusive XML Canonicalization 1.0, "Use in XML Security"
pub record Form : Type 0 where
  pub rule : Rule
  pub comments : Bool

-- Text and attribute values: Canonical XML 1.0, "Processing Model", "Text Nodes" and "Attribute Nodes"

abbrev pub text_character : ℕ → List ℕ
text_character c =
    if c == 0x26 then codes "&amp;" else (if c == 0x3C then codes "&lt;" else (if c == 0x3E then codes "&gt;"
    else (if c == 0xD then codes "&#xD;" else c ∷ [])))

abbrev pub value_character : ℕ → List ℕ
value_character c =
    if c == 0x26 then codes "&amp;" else (if c == 0x3C then codes "&lt;" else (if c == 0x22 then codes "&quot;"
    else (if c == 0x9 then codes "&#x9;" else (if c == 0xA then codes "&#xA;" else (if c == 0xD then codes "&#xD;" else c ∷ [])))))

-- a space, the name, `=` and the value in quotes
abbrev pub attribute_text : List ℕ → List ℕ → List ℕ
attribute_text name value = codes " " ++ name ++ codes "=\"" ++ flat_map value_character value ++ codes "\""

-- Order: Canonical XML 1.0, "Document Order"

-- by code points
abbrev pub is_before : List ℕ → List ℕ → Bool
is_before a [] = false
is_before [] (d ∷ b) = true
is_before (c ∷ a) (d ∷ b) = nat_lt c d || ((c == d) && is_before a b)

-- by namespace name, then by local name
abbrev pub is_name_before : Expanded → Expanded → Bool
is_name_before a b = is_before a.space b.space || ((a.space is b.space) && is_before a.local b.local)

abbrev pub placed : {A : Type 0} → (A → A → Bool) → A → List A → List A
placed before x [] = x ∷ []
placed before x (y ∷ ys) = if before y x then y ∷ placed before x ys else x ∷ y ∷ ys

abbrev pub sorted : {A : Type 0} → (A → A → Bool) → List A → List A
sorted before [] = []
sorted before (x ∷ xs) = placed before x (sorted before xs)

-- What stands around an element: the elements that hold it, the innermost first; those of them whose declarations the nearest written
-- element has in scope, itself first (none at an apex); and the prefixes with their values that written elements around it wrote, the
-- nearest first
pub record Around : Type 0 where
  pub outer : List Tag
  pub written : List Tag
  pub rendered : List Attribute

-- what stands around an apex
abbrev pub at_apex : List Tag → Around
at_apex outer = record { outer = outer; written = []; rendered = [] }

-- Declarations

-- a prefix and its value, as an attribute
abbrev pub declared_as : List ℕ → List ℕ → Attribute
declared_as prefix value = record { name = record { prefix = codes "xmlns"; local = prefix }; value = value }

-- the value that the nearest written element wrote for a prefix, and the empty text where none wrote it
abbrev pub rendered_value : List ℕ → List Attribute → List ℕ
rendered_value prefix [] = []
rendered_value prefix (a ∷ others) = if a.name.local is prefix then a.value else rendered_value prefix others

abbrev pub is_among : List ℕ → List (List ℕ) → Bool
is_among x xs = list_any (λ y. x is y) xs

-- visibly utilized: Exclusive XML Canonicalization 1.0, "Terminology"
abbrev pub uses : List ℕ → Tag → Bool
uses prefix tag =
    (tag.name.prefix is prefix) || list_any (λ a. not (is_empty a.name.prefix) && (a.name.prefix is prefix)) tag.attributes

-- whether the value of a prefix differs from that which the nearest written element has for it
abbrev pub changes : Around → Tag → List ℕ → Bool
changes around tag prefix = not (space_of prefix (tag ∷ around.outer) is space_of prefix around.written)

-- whether it differs from that which the nearest written element that wrote it wrote
abbrev pub is_unrendered : Around → Tag → List ℕ → Bool
is_unrendered around tag prefix = not (space_of prefix (tag ∷ around.outer) is rendered_value prefix around.rendered)

-- Canonical XML 1.0, "Processing Model", "Namespace Axis"; Exclusive XML Canonicalization 1.0, "Specification of Exclusive XML
-- Canonicalization". A declaration of `xml` is never written
abbrev pub is_written : Rule → Around → Tag → List ℕ → Bool
is_written Inclusive around tag prefix = changes around tag prefix
is_written (Exclusive prefixes) around tag prefix = not (prefix is codes "xml")
    && (if is_among prefix prefixes then changes around tag prefix else uses prefix tag && is_unrendered around tag prefix)

-- the prefixes that elements declare, and the default, each once, in order
abbrev pub with_prefix : List ℕ → List (List ℕ) → List (List ℕ)
with_prefix prefix prefixes = if is_among prefix prefixes then prefixes else placed is_before prefix prefixes

abbrev pub with_declared : List Attribute → List (List ℕ) → List (List ℕ)
with_declared [] prefixes = prefixes
with_declared (a ∷ attributes) prefixes =
    option_map_or (λ prefix. with_prefix prefix (with_declared attributes prefixes)) (declared_prefix a) (with_declared attributes prefixes)

abbrev pub declared_prefixes : List Tag → List (List ℕ)
declared_prefixes [] = [] ∷ []
declared_prefixes (tag ∷ outer) = with_declared tag.attributes (declared_prefixes outer)

abbrev pub declarations : Rule → Around → Tag → List Attribute
declarations rule around tag =
    map (λ prefix. declared_as prefix (space_of prefix (tag ∷ around.outer)))
    (filter (is_written rule around tag) (declared_prefixes (tag ∷ around.outer)))

abbrev pub declaration_name : List ℕ → List ℕ
declaration_name [] = codes "xmlns"
declaration_name (c ∷ prefix) = codes "xmlns:" ++ c ∷ prefix

abbrev pub declaration_text : Attribute → List ℕ
declaration_text a = attribute_text (declaration_name a.name.local) a.value

-- Attributes

abbrev pub is_declaration : Attribute → Bool
is_declaration a = option_map_or (λ prefix. true) (declared_prefix a) false

-- the nearest `xml:` attribute of each name, of an element and those around it: Canonical XML 1.0, "Document Subsets"
abbrev pub is_xml : Attribute → Bool
is_xml a = a.name.prefix is codes "xml"

abbrev pub has_local : List ℕ → List Attribute → Bool
has_local local attributes = list_any (λ a. is_xml a && (a.name.local is local)) attributes

abbrev pub with_inherited : List Attribute → List Tag → List Attribute
with_inherited attributes [] = attributes
with_inherited attributes (tag ∷ outer) =
    with_inherited (attributes ++ filter (λ a. is_xml a && not (has_local a.name.local attributes)) tag.attributes) outer

-- an apex has no written element around it
abbrev pub attributes_of : Rule → Around → Tag → List Attribute
attributes_of Inclusive around tag = if is_empty around.written then with_inherited tag.attributes around.outer else tag.attributes
attributes_of (Exclusive prefixes) around tag = tag.attributes

abbrev pub attributes_text : Rule → Around → Tag → List ℕ
attributes_text rule around tag =
    flat_map (λ a. attribute_text (spelled a.name) a.value)
    (sorted (λ a b. is_name_before (attribute_name (tag ∷ around.outer) a.name) (attribute_name (tag ∷ around.outer) b.name))
    (filter (λ a. not (is_declaration a)) (attributes_of rule around tag)))

-- Nodes: Canonical XML 1.0, "Processing Model"

abbrev pub start_text : Rule → Around → Tag → List ℕ
start_text rule around tag =
    codes "<" ++ spelled tag.name ++ flat_map declaration_text (declarations rule around tag) ++ attributes_text rule around tag ++ codes ">"

abbrev pub end_text : Tag → List ℕ
end_text tag = codes "</" ++ spelled tag.name ++ codes ">"

-- what stands around the nodes that an element holds, once it is written
abbrev pub inside : Rule → Around → Tag → Around
inside rule around tag = record {
  outer = tag ∷ around.outer;
  written = tag ∷ around.outer;
  rendered = declarations rule around tag ++ around.rendered;
}

abbrev pub comment_text : List ℕ → List ℕ
comment_text cs = codes "<!--" ++ cs ++ codes "-->"

abbrev pub with_space : List ℕ → List ℕ
with_space [] = []
with_space (c ∷ cs) = 0x20 ∷ c ∷ cs

abbrev pub instruction_text : List ℕ → List ℕ → List ℕ
instruction_text target content = codes "<?" ++ target ++ with_space content ++ codes "?>"

abbrev mutual
  pub node_text : Rule → Around → Node → List ℕ
  node_text rule around (Element name attributes nodes) = let tag : Tag = record { name = name; attributes = attributes } in
      start_text rule around tag ++ nodes_text rule (inside rule around tag) nodes ++ end_text tag
  node_text rule around (Text cs) = flat_map text_character cs
  node_text rule around (Comment cs) = comment_text cs
  node_text rule around (Instruction target content) = instruction_text target content

  pub nodes_text : Rule → Around → Nodes → List ℕ
  nodes_text rule around no_nodes = []
  nodes_text rule around (node ⨾ nodes) = node_text rule around node ++ nodes_text rule around nodes

-- Outside the document element a comment or a PI stands on a line of its own: Canonical XML 1.0, "Processing Model", "Processing
-- Instruction (PI) Nodes" and "Comment Nodes". Before and behind are by the document, also where the set takes its element away.

-- the nodes of a document before its element
abbrev pub before_element : Nodes → Nodes
before_element no_nodes = no_nodes
before_element (Element name attributes inner ⨾ nodes) = no_nodes
before_element (node ⨾ nodes) = node ⨾ before_element nodes

-- nodes of a document, of which the first n stand before its element
abbrev pub outside_text : Rule → ℕ → Nodes → List ℕ
outside_text rule n no_nodes = []
outside_text rule n (Element name attributes inner ⨾ nodes) =
    node_text rule (at_apex []) (Element name attributes inner) ++ outside_text rule n nodes
outside_text rule zero (node ⨾ nodes) = codes "\n" ++ node_text rule (at_apex []) node ++ outside_text rule zero nodes
outside_text rule (suc n) (node ⨾ nodes) = node_text rule (at_apex []) node ++ codes "\n" ++ outside_text rule n nodes

-- the text of a part: by its apex, the elements around that, how many of its nodes stand before the document element, and its nodes
abbrev pub part_text : Rule → Path → List Tag → ℕ → Nodes → List ℕ
part_text rule [] outer n nodes = outside_text rule n nodes
part_text rule (k ∷ []) outer n nodes = outside_text rule n nodes
part_text rule (k ∷ next ∷ path) outer n nodes = nodes_text rule (at_apex outer) nodes

-- the set without comments where the form writes none
abbrev pub in_form : Form → NodeSet → NodeSet
in_form form set = record set { comments = form.comments && set.comments }

-- the canonical text of a node set of a document
unfoldable pub text_of : Form → NodeSet → Nodes → List ℕ
text_of form set document = let held = in_form form set in
    part_text form.rule set.apex (elements_around document set.apex) (count (part held (before_element document))) (part held document)

abbrev pub octets_of : Form → NodeSet → Nodes → List ℕ
octets_of form set document = encode_utf8_all (text_of form set document)
