-- What a property in memory shows.
use Rattle.std.specs.Prelude.{◌≡◌}
use Rattle.doc_spans.specs.declared.documents.Doc.{Doc}
use Rattle.doc_spans.specs.declared.documents.NodeId.{NodeId}
use Rattle.qualifying_props.specs.declared.property.Property.{Property}
use Rattle.qualifying_props.specs.PartsOf.{IsProperty}
use Rattle.qualifying_props.specs.Shown.{ShownProperty}

abbrev pub shown_property : Property → ShownProperty
shown_property property = record { node = property.node; kind = property.kind; token = property.token; parts = property.parts.items }

-- it is the property at a node
pub record IsOf (doc : Doc) (node : NodeId) (property : ShownProperty) : Type 0 where
  pub at : property.node ≡ node
  pub is : IsProperty doc property
