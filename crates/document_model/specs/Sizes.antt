-- How deep and how large a tree is.
use Rattle.std.specs.Prelude.{ℕ, suc, ◌+◌, length, max}
use Rattle.document_model.specs.Tree.{Node, Nodes, Element, Text, Comment, Instruction, no_nodes, ◌⨾◌}

abbrev mutual
  -- how many elements stand one in another
  pub node_height : Node → ℕ
  node_height (Element name attributes nodes) = suc (height nodes)
  node_height (Text cs) = 0
  node_height (Comment cs) = 0
  node_height (Instruction target content) = 0

  pub height : Nodes → ℕ
  height no_nodes = 0
  height (node ⨾ nodes) = max (node_height node) (height nodes)

abbrev mutual
  -- how many nodes there are, with the attributes and declarations
  pub node_count : Node → ℕ
  node_count (Element name attributes nodes) = 1 + length attributes + count_all nodes
  node_count (Text cs) = 1
  node_count (Comment cs) = 1
  node_count (Instruction target content) = 1

  pub count_all : Nodes → ℕ
  count_all no_nodes = 0
  count_all (node ⨾ nodes) = node_count node + count_all nodes
