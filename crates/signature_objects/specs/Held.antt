-- Which objects a signature has, in the order in which they stand in it, and which of them a time-stamp covers: EN 319 132-1, clauses 5.3 to
-- 5.5; the certificates in a token: RFC 3161, section 2.4.2.
use Rattle.std.specs.Prelude.{ℕ, if◌then◌else◌, List, [], ◌∷◌, ◌++◌, flat_map, length, map}
use Rattle.document_model.specs.Tree.{Nodes}
use Rattle.signature_model.specs.Spots.{Spot}
use Rattle.signature_model.specs.Parts as parts
use Rattle.signature_model.specs.Parts.{PropertyKind, SignatureStamp, ArchiveStamp, Material, Passed, DatumKind}
use Rattle.tst_tokens.specs.Tokens.{certificates_of}
use Rattle.qualifying_props.specs.PartsOf.{key_octets}
use Rattle.signature_objects.specs.Objects.{Object, Value, Certificate, RevocationList, Token, with_objects, number_of, numbers_below, octets_from}

-- a token, and then the certificates that it holds
abbrev pub objects_of_token : List ℕ → List Object
objects_of_token token = Token token ∷ map (λ element. Certificate element.whole) (certificates_of token)

abbrev pub objects_of_datum : DatumKind → List ℕ → List Object
objects_of_datum parts.Certificate octets = Certificate octets ∷ []
objects_of_datum parts.RevocationList octets = RevocationList octets ∷ []
objects_of_datum parts.Token octets = objects_of_token octets

-- the certificates and revocation lists of a property
abbrev pub material_in : Nodes → Spot → List Object
material_in document property =
    flat_map (λ datum. objects_of_datum datum.kind (parts.octets_or_none document (datum.spot ∷ [])))
    (flat_map (parts.data_of_values document) (parts.values_of document property))

-- what stands in a property, in its order: a time-stamp's token with its certificates, or certificates and revocation lists
abbrev pub objects_in : Nodes → Spot → List Object
objects_in document property = if parts.is_stamp property then objects_of_token (parts.token document property) else material_in document property

-- what stands in front of all properties: the octets of the References, the value, and the certificates of KeyInfo
abbrev pub objects_in_front : Nodes → Spot → List Object
objects_in_front document signature =
    octets_from 1 (length (parts.references document signature)) ++ Value ∷ map (λ bytes. Certificate bytes) (key_octets document signature)

-- the objects where some properties are read, in first-seen order
abbrev pub objects_to : Nodes → Spot → List Spot → List Object
objects_to document signature properties =
    with_objects (with_objects [] (objects_in_front document signature)) (flat_map (objects_in document) properties)

-- all objects: certificates and revocation lists that are handed in are behind those of the document
abbrev pub objects : Nodes → Spot → List Object → List Object
objects document signature more = with_objects (objects_to document signature (parts.properties document signature)) more

-- A signature time-stamp covers the value. An archive time-stamp covers the objects of all that stands before it: the References' octets,
-- the value, the certificates of KeyInfo, and what stands in the properties before it.
abbrev pub covers_of : PropertyKind → List Object → List ℕ
covers_of SignatureStamp before = number_of before Value ∷ []
covers_of ArchiveStamp before = numbers_below (length before)
covers_of Material before = []
covers_of Passed before = []
