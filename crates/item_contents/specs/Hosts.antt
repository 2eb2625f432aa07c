-- The innermost of the three elements that hold unsigned properties: EN 319 132-1, clause 4.3.
use Rattle.std.specs.Prelude.{◌≡◌, ℕ, List, [], codes}
use Rattle.document_model.specs.Tree.{Nodes}
use Rattle.signature_model.specs.Spots.{Spot}
use Rattle.signature_model.specs.Fragments.{in_property_list, in_unsigned, wrapped}
use Rattle.item_contents.specs.declared.hosts.Host.{Host}
use Rattle.item_contents.specs.declared.hosts.Host.TheVariants.{UnsignedSignatureProperties, UnsignedProperties, QualifyingProperties}

-- a property as it is put into the host
abbrev pub in_host : Host → Nodes → Nodes
in_host UnsignedSignatureProperties nodes = nodes
in_host UnsignedProperties nodes = in_property_list nodes
in_host QualifyingProperties nodes = in_unsigned (in_property_list nodes)

-- it is the host of a signature
abbrev pub IsHost : Nodes → Spot → Host → Type 0
IsHost document signature host = (nodes : Nodes) → wrapped document signature nodes ≡ in_host host nodes

-- the start tags of the elements that are missing in the host, and their end tags
abbrev pub opening : Host → List ℕ
opening UnsignedSignatureProperties = []
opening UnsignedProperties = codes "<xades:UnsignedSignatureProperties xmlns:xades=\"http://uri.etsi.org/01903/v1.3.2#\">"
opening QualifyingProperties =
    codes "<xades:UnsignedProperties xmlns:xades=\"http://uri.etsi.org/01903/v1.3.2#\"><xades:UnsignedSignatureProperties xmlns:xades=\"http://uri.etsi.org/01903/v1.3.2#\">"

abbrev pub closing : Host → List ℕ
closing UnsignedSignatureProperties = []
closing UnsignedProperties = codes "</xades:UnsignedSignatureProperties>"
closing QualifyingProperties = codes "</xades:UnsignedSignatureProperties></xades:UnsignedProperties>"
