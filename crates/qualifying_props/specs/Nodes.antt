-- The parts that are one element each, in memory.
use Rattle.std.specs.Prelude.{◌≡◌, Some, None}
use Rattle.document_model.specs.Tree.{Nodes}
use Rattle.doc_spans.specs.declared.documents.Doc.{Doc}
use Rattle.doc_spans.specs.declared.documents.NodeId.{NodeId}
use Rattle.doc_spans.specs.Seen.{document_in}
use Rattle.signature_elements.specs.Standing.{spot_of}
use Rattle.signature_model.specs.Faults.{first_fault}
use Rattle.signature_model.specs.Parts as model
use Rattle.signature_model.specs.Shape.{shape_faults}
use Rattle.signature_model.specs.Spots.{Spot}
use Rattle.signature_parts.specs.Parts.{IsPart}
use Rattle.qualifying_props.specs.declared.nodes.PartNodes.{PartNodes}

-- the signature has no fault in its shape
pub record IsShaped (document : Nodes) (signature : Spot) : Type 0 where
  pub none : first_fault (shape_faults document signature) ≡ None

pub record AreNodesOf (doc : Doc) (document : Nodes) (signature : Spot) (nodes : PartNodes) : Type 0 where
  pub signed_info : IsPart doc (model.signed_info document signature) (Some nodes.signed_info)
  pub value : IsPart doc (model.value document signature) (Some nodes.value)
  pub host : IsPart doc (model.host document signature) (Some nodes.host)
  pub method : IsPart doc (model.method document signature) (Some nodes.method)
  pub key_info : IsPart doc (model.key_info document signature) (Some nodes.key_info)

pub record AreNodes (doc : Doc) (signature : NodeId) (nodes : PartNodes) : Type 0 where
  pub node : nodes.signature ≡ signature
  pub others : AreNodesOf doc (document_in doc) (spot_of doc signature) nodes
