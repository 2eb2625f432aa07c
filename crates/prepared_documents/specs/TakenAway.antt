-- An element that is put in and taken away again: XML Signature 1.1, "Enveloped Signature Transform".
use Rattle.std.specs.Prelude.{◌≡◌, List, [], ◌∷◌, ◌++◌, Some, None}
use Rattle.document_model.specs.Names.{Name}
use Rattle.document_model.specs.Items.{Attribute}
use Rattle.document_model.specs.Tree.{Node, Nodes, Path, Element, no_nodes, ◌⨾◌, node_at, below, count, put_last, IsElement}
use Rattle.document_model.specs.NodeSets.{NodeSet, without, part}
use Rattle.document_model.specs.Canonical.{Form, text_of}

-- The law: where an element is put last into an element, the whole document without it is the document before, in content and in text by each form.
abbrev pub TakesAway : Type 0
TakesAway = (set : NodeSet) (document : Nodes) (host : Path) (m : Node) (name : Name) (attributes : List Attribute) (inner : Nodes)
    → set.apex ≡ [] → set.removed ≡ None → node_at document host ≡ Some m → IsElement m
    → (part (without set (host ++ count (below m) ∷ [])) (put_last (Element name attributes inner ⨾ no_nodes) host document) ≡ part set document)
    × ((form : Form) → text_of form (without set (host ++ count (below m) ∷ [])) (put_last (Element name attributes inner ⨾ no_nodes) host document) ≡ text_of form set document)
