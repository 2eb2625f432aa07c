-- Whether two trees are the same, as a test that computes: for theorems on literals, where an equation would compare what isn't computed.
use Rattle.std.specs.Prelude.{Bool, true, false, ◌&&◌, List, [], ◌∷◌}
use Rattle.document_model.specs.Characters.{◌is◌}
use Rattle.document_model.specs.Names.{same_name}
use Rattle.document_model.specs.Items.{Attribute}
use Rattle.document_model.specs.Tree.{Node, Nodes, Element, Text, Comment, Instruction, no_nodes, ◌⨾◌}

abbrev same_attributes : List Attribute → List Attribute → Bool
same_attributes [] [] = true
same_attributes [] (b ∷ bs) = false
same_attributes (a ∷ as') [] = false
same_attributes (a ∷ as') (b ∷ bs) = same_name a.name b.name && (a.value is b.value) && same_attributes as' bs

abbrev mutual
  pub same_nodes : Nodes → Nodes → Bool
  same_nodes no_nodes no_nodes = true
  same_nodes no_nodes (b ⨾ bs) = false
  same_nodes (a ⨾ as') no_nodes = false
  same_nodes (a ⨾ as') (b ⨾ bs) = same_node a b && same_nodes as' bs

  pub same_node : Node → Node → Bool
  same_node (Element a as' inner) (Element b bs others) = same_name a b && same_attributes as' bs && same_nodes inner others
  same_node (Text a) (Text b) = a is b
  same_node (Comment a) (Comment b) = a is b
  same_node (Instruction a as') (Instruction b bs) = (a is b) && (as' is bs)
  same_node a b = false
