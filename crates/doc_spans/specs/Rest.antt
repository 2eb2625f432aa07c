-- The numbers that an iterator of children has left.
use Rattle.std.specs.Prelude.{ℕ, List}
use Rattle.doc_spans.specs.declared.child_nodes.Children.{Children}
use Rattle.doc_spans.specs.Shown.{path_at, later_children}

abbrev pub rest : Children → List ℕ
rest it = later_children it.tree.now (path_at it.tree.now it.node) it.next
