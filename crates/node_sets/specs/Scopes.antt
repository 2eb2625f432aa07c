-- The scope of a node of a document in memory, and the names there.
use Rattle.std.specs.Prelude.{Bool, false, if◌then◌else◌, List, [], ℕ, Option, Some, None, option_and_then}
use Rattle.std.specs.Option.{option_map_or}
use Rattle.std.specs.Str.{chars}
use Rattle.document_model.specs.Characters.{is_empty}
use Rattle.document_model.specs.Names.{Expanded}
use Rattle.document_model.specs.Scopes.{Tag, tags_at, elements_around, is_named, attribute_value}
use Rattle.doc_spans.specs.declared.documents.Doc.{Doc}
use Rattle.doc_spans.specs.declared.documents.NodeId.{NodeId}
use Rattle.doc_spans.specs.Seen.{document_in, path_in, node_in}

-- the elements in whose scope a node stands, the innermost first
abbrev pub scope_of : Doc → NodeId → List Tag
scope_of doc node = tags_at (document_in doc) (path_in doc node)

-- and none where there is no node
abbrev pub scope_from : Doc → Option NodeId → List Tag
scope_from doc node = option_map_or (scope_of doc) node []

-- an expanded name by its texts
abbrev pub named : List ℕ → List ℕ → Expanded
named space local = record { space = chars space; local = chars local }

-- whether the node is an element with the name
abbrev pub named_at : Doc → NodeId → Expanded → Bool
named_at doc node name = option_map_or (is_named (elements_around (document_in doc) (path_in doc node)) name) (node_in doc node) false

-- the value of its attribute with the name
abbrev pub attribute_at : Doc → NodeId → Expanded → Option (List ℕ)
attribute_at doc node name = option_and_then (attribute_value (elements_around (document_in doc) (path_in doc node)) name) (node_in doc node)

-- the empty namespace name is none
abbrev pub bound : List ℕ → Option (List ℕ)
bound space = if is_empty space then None else Some space
