-- What the parts of a signature show: elements by the numbers of their nodes, and octets.
use Rattle.std.specs.Prelude.{ℕ, Bool, List, [], Option, option_and_then, slice_get}
use Rattle.std.specs.Option.{option_map_or}
use Rattle.algorithms.specs.declared.digest_kinds.DigestKind.{DigestKind}
use Rattle.doc_spans.specs.declared.documents.NodeId.{NodeId}
use Rattle.signature_parts.specs.declared.kinds.PropertyKind.{PropertyKind}

-- an unsigned property: its token, where it is a time-stamp, and else its certificates and CRLs
pub record ShownProperty : Type 0 where
  pub node : NodeId
  pub kind : PropertyKind
  pub token : Option (List ℕ)
  pub parts : List (List ℕ)

pub record Shown : Type 0 where
  pub signature : NodeId
  pub signed_info : NodeId
  pub value_node : NodeId
  pub host : NodeId
  pub method_node : NodeId
  pub key_info : NodeId
  -- the characters of the signature method's name
  pub method : List ℕ
  pub value : List ℕ
  pub references : List NodeId
  pub objects : List NodeId
  pub key_certs : List (List ℕ)
  pub properties : List ShownProperty
  pub has_values : Bool
  -- of the first Cert
  pub digest_kind : DigestKind
  pub digest : List ℕ
  -- the number of the signing certificate among those of KeyInfo
  pub signing_cert : Option ℕ

-- of a property by its number
abbrev pub token_at : Shown → ℕ → Option (List ℕ)
token_at shown number = option_and_then (λ property. property.token) (slice_get shown.properties number)

abbrev pub parts_at : Shown → ℕ → List (List ℕ)
parts_at shown number = option_map_or (λ property. property.parts) (slice_get shown.properties number) []
