-- What is collected of a signature, part by part.
use Rattle.std.specs.Prelude.{◌≡◌, ℕ, List, Some, map, option_map}
use Rattle.std.specs.List.{position}
use Rattle.document_model.specs.Tree.{Nodes}
use Rattle.doc_spans.specs.declared.documents.Doc.{Doc}
use Rattle.doc_spans.specs.declared.documents.NodeId.{NodeId}
use Rattle.doc_spans.specs.Seen.{document_in}
use Rattle.signature_elements.specs.Standing.{spot_of}
use Rattle.signature_model.specs.Parts as model
use Rattle.signature_model.specs.Spots.{Spot}
use Rattle.qualifying_props.specs.declared.parts.Values.{Values}
use Rattle.qualifying_props.specs.declared.parts.Signer.{Signer}
use Rattle.qualifying_props.specs.Digests.{algorithm, has_digest}
use Rattle.qualifying_props.specs.PartsOf.{key_octets, cert_method, cert_digest, AreProperties, ArePartsOf}
use Rattle.qualifying_props.specs.Properties.{shown_property}
use Rattle.qualifying_props.specs.Shown.{Shown}

-- certificates, CRLs and tokens
pub record AreValuesOf (doc : Doc) (document : Nodes) (signature : Spot) (values : Values) : Type 0 where
  pub key_certs : values.key_certs.items ≡ key_octets document signature
  pub properties : AreProperties doc (model.properties document signature) (map shown_property values.properties.items)

-- the digest of the first Cert, and the first of some certificates that has it
pub record IsSignerOf (document : Nodes) (signature : Spot) (certs : List (List ℕ)) (signer : Signer) : Type 0 where
  pub kind : option_map algorithm (model.digest_kind (cert_method document signature)) ≡ Some signer.kind
  pub digest : signer.digest ≡ cert_digest document signature
  pub number : signer.number ≡ position (has_digest signer.kind signer.digest) certs

-- all parts of the signature at a node
pub record ArePartsAt (doc : Doc) (signature : NodeId) (parts : Shown) : Type 0 where
  pub node : parts.signature ≡ signature
  pub are : ArePartsOf doc (document_in doc) (spot_of doc signature) parts
