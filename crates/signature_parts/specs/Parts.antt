-- Parts of a signature in memory.
use Rattle.std.specs.Prelude.{◌≡◌, List, Option, IfSome, codes}
use Rattle.document_model.specs.Tree.{Nodes}
use Rattle.doc_spans.specs.declared.documents.Doc.{Doc}
use Rattle.doc_spans.specs.declared.documents.NodeId.{NodeId}
use Rattle.signature_model.specs.Vocabulary.{xades}
use Rattle.signature_model.specs.Spots.{Spot, called_in, first}
use Rattle.signature_model.specs.Parts.{signing_certificate_property}
use Rattle.signature_elements.specs.Standing.{spot_or_none, IsThere}

-- a part is the element of a list that has one at most
pub record IsPart (doc : Doc) (spots : List Spot) (part : Option NodeId) : Type 0 where
  pub spot : spot_or_none doc part ≡ spots
  pub there : IfSome part (IsThere doc)

-- the first certificate of SigningCertificateV2
abbrev pub certificate : Nodes → Spot → List Spot
certificate document signature = first (called_in document (xades (codes "Cert")) (signing_certificate_property document signature))
