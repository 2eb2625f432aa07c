-- Nodes that are legal content once they are written: XML 1.0, "Character Data and Markup", "Start-Tags, End-Tags, and Empty-Element Tags"
-- and "Attribute-Value Normalization"; Namespaces in XML 1.0, "Qualified Names". What is simple is this project's own.
use Rattle.std.specs.Prelude.{◌≡◌, ℕ, ◌≤◌, Bool, true, false, List, [], ◌∷◌, Some, length}
use Rattle.std.specs.List.{list_all}
use Rattle.document_model.specs.Characters.{in_ranges}
use Rattle.document_model.specs.Names.{Name, name_of, spelled}
use Rattle.document_model.specs.Items.{Attribute, most_attributes}
use Rattle.document_model.specs.Tree.{Node, Nodes, Element, Text, Comment, Instruction, no_nodes, ◌⨾◌}
use Rattle.document_model.specs.Scopes.{Tag, is_sound}
use Rattle.signature_model.specs.Fragments.{written_octets}
use Rattle.insertions.specs.Content.{IsContent, nodes_of_content}

-- printable ASCII that stands for itself in texts and in values: no `"`, `&`, `'`, `<`, `>` and `]`
abbrev pub is_simple : ℕ → Bool
is_simple = in_ranges ((0x20, 0x21) ∷ (0x23, 0x25) ∷ (0x28, 0x3B) ∷ (0x3D, 0x3D) ∷ (0x3F, 0x5C) ∷ (0x5E, 0x7E) ∷ [])

-- a character that may stand in a value, written or by a reference: each Char but tab, line feed and carriage return
abbrev pub may_write : ℕ → Bool
may_write = in_ranges ((0x20, 0xD7FF) ∷ (0xE000, 0xFFFD) ∷ (0x10000, 0x10FFFF) ∷ [])

-- a name of simple characters
pub record IsSimpleName (name : Name) : Type 0 where
  pub named : name_of (spelled name) ≡ Some name
  pub simple : list_all is_simple (spelled name) ≡ true

abbrev pub AreSimple : List Attribute → Type 0
AreSimple [] = Unit {0}
AreSimple (a ∷ attributes) = IsSimpleName a.name × (list_all may_write a.value ≡ true) × AreSimple attributes

abbrev pub begins_element : Nodes → Bool
begins_element no_nodes = true
begins_element (Element name attributes inner ⨾ nodes) = true
begins_element (Text cs ⨾ nodes) = false
begins_element (Comment cs ⨾ nodes) = false
begins_element (Instruction target content ⨾ nodes) = false

-- Elements and texts, with no two texts side by side and none empty, whose names and values are simple and whose tags are sound in the scope
-- of the elements around, the innermost first.
abbrev mutual
  pub IsFragment : List Tag → Nodes → Type 0
  IsFragment tags no_nodes = Unit {0}
  IsFragment tags (node ⨾ nodes) = IsFragmentNode tags node nodes × IsFragment tags nodes

  pub IsFragmentNode : List Tag → Node → Nodes → Type 0
  IsFragmentNode tags (Element name attributes inner) nodes = IsSimpleName name × AreSimple attributes × (length attributes ≤ most_attributes)
      × (is_sound tags (record { name = name; attributes = attributes }) ≡ true) × IsFragment (record { name = name; attributes = attributes } ∷ tags) inner
  IsFragmentNode tags (Text []) nodes = ⊥
  IsFragmentNode tags (Text (c ∷ cs)) nodes = (list_all is_simple (c ∷ cs) ≡ true) × (begins_element nodes ≡ true)
  IsFragmentNode tags (Comment cs) nodes = ⊥
  IsFragmentNode tags (Instruction target content) nodes = ⊥

-- The law: such nodes, written, are legal content, and the content's nodes are these.
abbrev pub FragmentsAreContent : Type 0
FragmentsAreContent = (tag : Tag) (outer : List Tag) (nodes : Nodes) → IsFragment (tag ∷ outer) nodes
    → (c : IsContent (tag ∷ outer) (written_octets nodes)) × (nodes_of_content c ≡ nodes)
