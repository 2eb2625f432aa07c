-- What is shown are the parts of the signature of a document.
use Rattle.std.specs.Prelude.{◌≡◌, ℕ, List, [], ◌∷◌, map, codes, Option, Some, None, if◌then◌else◌, option_and_then, option_map, slice_get, unwrap_or}
use Rattle.std.specs.List.{All, position}
use Rattle.document_model.specs.Tree.{Nodes}
use Rattle.doc_spans.specs.declared.documents.Doc.{Doc}
use Rattle.doc_spans.specs.declared.documents.NodeId.{NodeId}
use Rattle.doc_spans.specs.Seen.{document_in}
use Rattle.signature_elements.specs.Standing.{spot_of, IsThere}
use Rattle.signature_model.specs.Parts as model
use Rattle.signature_model.specs.Spots.{Spot, attribute}
use Rattle.signature_parts.specs.Kinds.{kind_in}
use Rattle.signature_parts.specs.Parts.{IsPart}
use Rattle.qualifying_props.specs.Data.{all_octets}
use Rattle.qualifying_props.specs.Digests as digests
use Rattle.qualifying_props.specs.Digests.{algorithm, has_digest}
use Rattle.qualifying_props.specs.Shown.{Shown, ShownProperty}

-- nodes are elements in their order
pub record AreElements (doc : Doc) (spots : List Spot) (nodes : List NodeId) : Type 0 where
  pub are : map (spot_of doc) nodes ≡ spots
  pub there : All (IsThere doc) nodes

-- the name of an algorithm by the first of some methods; empty where there is none
abbrev pub name_in : List Spot → List ℕ
name_in [] = []
name_in (method ∷ methods) = unwrap_or (attribute (codes "Algorithm") method) []

-- the token of a time-stamp
abbrev pub token_of : Nodes → Spot → Option (List ℕ)
token_of document property = if model.is_stamp property then Some (model.token document property) else None

-- the certificates and CRLs of another property
abbrev pub parts_of : Nodes → Spot → List (List ℕ)
parts_of document property = if model.is_stamp property then [] else all_octets document (model.data_of document property)

pub record IsPropertyOf (document : Nodes) (spot : Spot) (property : ShownProperty) : Type 0 where
  pub kind : kind_in property.kind ≡ model.kind_of spot
  pub token : property.token ≡ token_of document spot
  pub parts : property.parts ≡ parts_of document spot

abbrev pub IsProperty : Doc → ShownProperty → Type 0
IsProperty doc property = IsPropertyOf (document_in doc) (spot_of doc property.node) property

-- what is shown are these properties
pub record AreProperties (doc : Doc) (spots : List Spot) (properties : List ShownProperty) : Type 0 where
  pub elements : AreElements doc spots (map (λ property. property.node) properties)
  pub each : All (IsProperty doc) properties

-- the octets of the certificates of KeyInfo
abbrev pub key_octets : Nodes → Spot → List (List ℕ)
key_octets document signature = map (λ spot. unwrap_or (model.octets_in document spot) []) (model.key_certificates document signature)

-- what the first Cert says
abbrev pub cert_method : Nodes → Spot → List Spot
cert_method document signature = model.digest_methods document (model.certificate_digest document signature)

abbrev pub cert_digest : Nodes → Spot → List ℕ
cert_digest document signature = model.octets_or_none document (model.digest_values document (model.certificate_digest document signature))

pub record ArePartsOf (doc : Doc) (document : Nodes) (signature : Spot) (parts : Shown) : Type 0 where
  pub counted : IsPart doc (model.counted document) (Some parts.signature)
  pub signed_info : IsPart doc (model.signed_info document signature) (Some parts.signed_info)
  pub value_node : IsPart doc (model.value document signature) (Some parts.value_node)
  pub host : IsPart doc (model.host document signature) (Some parts.host)
  pub method_node : IsPart doc (model.method document signature) (Some parts.method_node)
  pub key_info : IsPart doc (model.key_info document signature) (Some parts.key_info)
  pub method : parts.method ≡ name_in (model.signature_method document signature)
  pub value : parts.value ≡ model.value_octets document signature
  pub references : AreElements doc (model.references document signature) parts.references
  pub objects : AreElements doc (model.other_objects document signature) parts.objects
  pub key_certs : parts.key_certs ≡ key_octets document signature
  pub properties : AreProperties doc (model.properties document signature) parts.properties
  pub has_values : parts.has_values ≡ model.has_values document signature
  pub digest_kind : option_map algorithm (model.digest_kind (cert_method document signature)) ≡ Some parts.digest_kind
  pub digest : parts.digest ≡ cert_digest document signature
  -- the first certificate that has it, which is the signing certificate
  pub number : parts.signing_cert ≡ position (has_digest parts.digest_kind parts.digest) parts.key_certs
  pub signer : option_and_then (slice_get parts.key_certs) parts.signing_cert ≡ model.signing_certificate digests.digest document signature

abbrev pub AreParts : Doc → Shown → Type 0
AreParts doc parts = ArePartsOf doc (document_in doc) (spot_of doc parts.signature) parts
