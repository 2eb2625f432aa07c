-- What a set in memory shows.
use Rattle.std.specs.Prelude.{Bool, true, false, not, ◌||◌, Option, Some, None, [], option_map}
use Rattle.std.specs.Option.{option_map_or}
use Rattle.node_sets.specs.declared.sets.NodeSet as code
use Rattle.document_model.specs.Characters.{◌is◌}
use Rattle.document_model.specs.Tree.{Path}
use Rattle.document_model.specs.NodeSets.{NodeSet}
use Rattle.doc_spans.specs.declared.documents.Doc.{Doc}
use Rattle.doc_spans.specs.declared.documents.NodeId.{NodeId}
use Rattle.doc_spans.specs.declared.rows.Kind.{Kind}
use Rattle.doc_spans.specs.declared.rows.Kind.TheVariants.{Element, Text, Comment, Pi}
use Rattle.doc_spans.specs.Seen.{path_in}

-- the document whose nodes it holds
abbrev pub doc_in : code.NodeSet → Doc
doc_in set = set.doc

-- the path of the node at the top, or that of the document
abbrev pub apex_path : Doc → Option NodeId → Path
apex_path doc apex = option_map_or (path_in doc) apex []

-- the set, as a test on paths
abbrev pub set_in : code.NodeSet → NodeSet
set_in set = record { apex = apex_path set.doc set.apex; comments = set.comments; removed = option_map (path_in set.doc) set.removed; signatures = true }

-- whether the path is that of the top of the removed subtree
abbrev pub is_top : Option Path → Path → Bool
is_top None path = false
is_top (Some top) path = top is path

abbrev pub is_comment : Kind → Bool
is_comment Element = false
is_comment Text = false
is_comment Comment = true
is_comment Pi = false

-- whether a set has nodes of a kind
abbrev pub keeps_kind : NodeSet → Kind → Bool
keeps_kind set kind = set.comments || not (is_comment kind)
