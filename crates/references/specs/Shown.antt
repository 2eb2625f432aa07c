-- What the References of a signature show.
use Rattle.std.specs.Prelude.{List}
use Rattle.doc_spans.specs.declared.documents.NodeId.{NodeId}
use Rattle.references.specs.declared.rows.Row.{Row}

-- the signature, and a row for each Reference in their order
pub record Shown : Type 0 where
  pub signature : NodeId
  pub rows : List Row
