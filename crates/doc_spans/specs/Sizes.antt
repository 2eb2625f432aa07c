-- How many nodes there are in a node, with it.
use Rattle.std.specs.Prelude.{ℕ, suc, ◌+◌}
use Rattle.std.specs.Option.{option_map_or}
use Rattle.document_model.specs.Tree.{Node, Nodes, Element, Text, Comment, Instruction, no_nodes, ◌⨾◌}
use Rattle.doc_spans.specs.declared.documents.Doc.{Doc}
use Rattle.doc_spans.specs.declared.documents.NodeId.{NodeId}
use Rattle.doc_spans.specs.Seen.{node_in}

abbrev mutual
  pub node_size : Node → ℕ
  node_size (Element name attributes nodes) = suc (nodes_size nodes)
  node_size (Text cs) = 1
  node_size (Comment cs) = 1
  node_size (Instruction target content) = 1

  pub nodes_size : Nodes → ℕ
  nodes_size no_nodes = 0
  nodes_size (node ⨾ nodes) = node_size node + nodes_size nodes

abbrev pub size_in : Doc → NodeId → ℕ
size_in doc node = option_map_or node_size (node_in doc node) 0
