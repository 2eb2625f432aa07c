-- The text of the nodes of a set, one node of its document after another.
use Rattle.std.specs.Prelude.{ℕ, List, []}
use Rattle.document_model.specs.Tree.{Node, Nodes, Path}
use Rattle.document_model.specs.NodeSets.{NodeSet, has_in, kept, kept_node, apex_alone}
use Rattle.doc_spans.specs.declared.documents.NodeId.{NodeId}
use Rattle.node_sets.specs.declared.sets.NodeSet as code
use Rattle.node_sets.specs.Sets.{set_in, doc_in}
use Rattle.canon_forms.specs.Walks.{by_node}
use Rattle.signature_model.specs.Chains.{texts, text_below}

-- of a node with what of it the set holds
abbrev pub node_text : NodeSet → Path → Node → List ℕ
node_text set path node = text_below (kept_node (has_in set) [] path node)

-- the same, and none where the set doesn't hold the node itself
abbrev pub alone_text : NodeSet → Path → Node → List ℕ
alone_text set path node = texts (apex_alone (has_in set) [] path node)

-- of nodes in memory
abbrev pub text_in : code.NodeSet → NodeId → List ℕ
text_in set node = by_node (node_text (set_in set)) [] (doc_in set) node

abbrev pub held_text_in : code.NodeSet → NodeId → List ℕ
held_text_in set node = by_node (alone_text (set_in set)) [] (doc_in set) node

-- of the nodes that the document holds
abbrev pub top_text : NodeSet → Nodes → List ℕ
top_text set document = texts (kept (has_in set) [] [] 0 document)
