-- What is read of a signature are whole objects: RFC 5280, sections 4.1 and 5.1; RFC 3161, section 2.4.2.
use Rattle.std.specs.Prelude.{ℕ, ◌⊎◌, List, IfSome}
use Rattle.std.specs.List.{All}
use Rattle.signature_model.specs.Parts.{Certificate, RevocationList, Token}
use Rattle.qualifying_props.specs.Shown.{Shown, ShownProperty}
use Rattle.qualifying_props.specs.Whole.{IsWhole}

-- a certificate or a CRL
abbrev pub IsMaterial : List ℕ → Type 0
IsMaterial octets = IsWhole Certificate octets ⊎ IsWhole RevocationList octets

-- the token of a time-stamp, and the certificates and CRLs of another property
pub record HoldsWhole (property : ShownProperty) : Type 0 where
  pub token : IfSome property.token (IsWhole Token)
  pub parts : All IsMaterial property.parts

-- the certificates of KeyInfo, and what the properties hold
pub record AreWhole (parts : Shown) : Type 0 where
  pub key_certs : All (IsWhole Certificate) parts.key_certs
  pub properties : All HoldsWhole parts.properties
