-- What a signature covers, and whether it is free to take more. This project's own, over XML Signature 1.1 and EN 319 132-1.
use Rattle.std.specs.Prelude.{◌≡◌, ℕ, suc, Bool, false, not, ◌&&◌, if◌then◌else◌, List, [], ◌∷◌, ◌++◌, filter, Option, Some, None}
use Rattle.std.specs.List.{list_any}
use Rattle.std.specs.Option.{option_map_or}
use Rattle.document_model.specs.Tree.{Nodes, Path}
use Rattle.document_model.specs.NodeSets.{NodeSet, is_within, is_removed}
use Rattle.signature_model.specs.Spots.{Spot}
use Rattle.signature_model.specs.Parts.{PropertyKind, SignatureStamp, ArchiveStamp, Material, Passed, value, references, properties, host, is_blank, is_signed, kind_of, token}
use Rattle.signature_model.specs.Parts as parts
use Rattle.signature_model.specs.Chains.{Handed, node_set}
use Rattle.signature_model.specs.Octets.{digest_octets, value_octets, octets_at}

pub data Entry : Type 0 where
  -- the number of a Reference with its digest octets
  Digested : (k : ℕ) → (octets : List ℕ) → Entry
  -- the signature value with the octets that it signs
  Signed : (value octets : List ℕ) → Entry
  -- the token of a stamp with the octets that it covers
  Stamped : (token octets : List ℕ) → Entry

-- References from the k-th on
abbrev pub digested : Handed → Nodes → Path → ℕ → List Spot → List Entry
digested handed document signature k [] = []
digested handed document signature k (reference ∷ references) =
    Digested k (digest_octets handed document signature reference) ∷ digested handed document signature (suc k) references

-- a property behind others
abbrev pub stamped_by : PropertyKind → List ℕ → List ℕ → List Entry
stamped_by SignatureStamp token octets = Stamped token octets ∷ []
stamped_by ArchiveStamp token octets = Stamped token octets ∷ []
stamped_by Material token octets = []
stamped_by Passed token octets = []

abbrev pub stamped : Handed → Nodes → Spot → List Spot → List Spot → List Entry
stamped handed document signature before [] = []
stamped handed document signature before (property ∷ properties) =
    stamped_by (kind_of property) (token document property) (octets_at handed document signature before property)
    ++ stamped handed document signature (before ++ property ∷ []) properties

-- what a signature covers: each Reference; where it has a value, this; and each stamp
abbrev pub covers : Handed → Nodes → Spot → List Entry
covers handed document signature =
    digested handed document signature.path 1 (references document signature)
    ++ (if is_signed document signature
    then Signed (parts.value_octets document signature) (value_octets document signature) ∷ stamped handed document signature [] (properties document signature)
    else [])

-- Free places.

-- the places at which something may be put in: an empty SignatureValue, and the host of new properties
abbrev pub places : Nodes → Spot → List Spot
places document signature = filter (is_blank document) (value document signature) ++ host document signature

-- Whether a set reaches a place by its path. The places stand in a signature, so a set without all signatures would reach none
abbrev pub lies_in : NodeSet → Path → Bool
lies_in set path = is_within set.apex path && not (is_removed set.removed path)

abbrev pub is_reached : Nodes → Path → Spot → Spot → Bool
is_reached document signature place reference =
    option_map_or (λ set. lies_in set place.path) (node_set document signature reference) false

abbrev pub covers_place : Nodes → Spot → Spot → Bool
covers_place document signature reference =
    list_any (λ place. is_reached document signature.path place reference) (places document signature)

-- the smallest number of a Reference whose node set holds a place, counted from k
abbrev pub first_covering : Nodes → Spot → ℕ → List Spot → Option ℕ
first_covering document signature k [] = None
first_covering document signature k (reference ∷ references) =
    if covers_place document signature reference then Some k else first_covering document signature (suc k) references

abbrev pub self_cover : Nodes → Spot → Option ℕ
self_cover document signature = first_covering document signature 1 (references document signature)

abbrev pub IsFree : Nodes → Spot → Type 0
IsFree document signature = self_cover document signature ≡ None
