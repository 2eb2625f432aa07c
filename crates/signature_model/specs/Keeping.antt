-- The laws: what stays where something is put into a signature.
use Rattle.std.specs.Prelude.{◌≡◌, ℕ, true, false, List, [], ◌∷◌, ◌++◌, codes}
use Rattle.document_model.specs.Tree.{Nodes, Path, put_last, IsElementAt}
use Rattle.document_model.specs.Scopes.{tags_at}
use Rattle.document_model.specs.Insertion.{HasNoIdentifiers}
use Rattle.signature_model.specs.Vocabulary.{ds}
use Rattle.signature_model.specs.Spots.{Spot, is_called}
use Rattle.signature_model.specs.Parts.{counted, value, host, is_signed}
use Rattle.signature_model.specs.Chains.{Handed}
use Rattle.signature_model.specs.Covers.{Entry, covers, IsFree}
use Rattle.signature_model.specs.Fragments.{Item, Value, with_item}

-- the spot is that of an element of the document
pub record IsSpot (document : Nodes) (spot : Spot) : Type 0 where
  pub tags : spot.tags ≡ tags_at document spot.path
  pub element : IsElementAt document spot.path

-- and it has a name
pub record IsSignature (document : Nodes) (signature : Spot) : Type 0 where
  pub stands : IsSpot document signature
  pub named : is_called (ds (codes "Signature")) signature ≡ true

-- the second list is the first with more behind
abbrev pub GoesOn : List Entry → List Entry → Type 0
GoesOn before after = (more : List Entry) × (after ≡ before ++ more)

-- Content put last into the host of a free signature leaves all that the signature covers.
abbrev pub PropertyKeepsCovers : Type 0
PropertyKeepsCovers = (handed : Handed) (document added : Nodes) (signature place : Spot)
    → IsSignature document signature → host document signature ≡ place ∷ [] → IsFree document signature → HasNoIdentifiers added
    → GoesOn (covers handed document signature) (covers handed (put_last added place.path document) signature)

-- Content put last into the empty SignatureValue of a free signature leaves what its References cover, which is all that it covers.
abbrev pub ValueKeepsCovers : Type 0
ValueKeepsCovers = (handed : Handed) (document added : Nodes) (signature place : Spot)
    → IsSignature document signature → value document signature ≡ place ∷ [] → is_signed document signature ≡ false
    → IsFree document signature → HasNoIdentifiers added
    → GoesOn (covers handed document signature) (covers handed (put_last added place.path document) signature)

-- A signature that takes an item: it has one SignatureValue, which is empty where the item is a value, and a host, and it is free.
abbrev pub MayTake : Nodes → Spot → Item → Type 0
MayTake document signature (Value octets) = is_signed document signature ≡ false
MayTake document signature item = is_signed document signature ≡ true

pub record TakesItem (document : Nodes) (signature : Spot) (item : Item) : Type 0 where
  pub is_signature : IsSignature document signature
  pub value_place : (place : Spot) × (value document signature ≡ place ∷ [])
  pub property_place : (place : Spot) × (host document signature ≡ place ∷ [])
  pub free : IsFree document signature
  pub may : MayTake document signature item

-- Each item leaves all that the signature covers.
abbrev pub ItemKeepsCovers : Type 0
ItemKeepsCovers = (handed : Handed) (document : Nodes) (signature : Spot) (item : Item) → TakesItem document signature item
    → GoesOn (covers handed document signature) (covers handed (with_item document signature item) signature)

-- Several items, one after another, each on the document that the earlier ones gave.
abbrev pub with_items : Nodes → Spot → List Item → Nodes
with_items document signature [] = document
with_items document signature (item ∷ items) = with_items (with_item document signature item) signature items

abbrev pub TakesItems : Nodes → Spot → List Item → Type 0
TakesItems document signature [] = Unit {0}
TakesItems document signature (item ∷ items) = TakesItem document signature item × TakesItems (with_item document signature item) signature items

abbrev pub ItemsKeepCovers : Type 0
ItemsKeepCovers = (handed : Handed) (document : Nodes) (signature : Spot) (items : List Item) → TakesItems document signature items
    → GoesOn (covers handed document signature) (covers handed (with_items document signature items) signature)

-- Content put in below a signature leaves the signatures that are counted.
abbrev pub KeepsCounted : Type 0
KeepsCounted = (document added : Nodes) (signature : Spot) (i : ℕ) (rest : Path) → IsSignature document signature
    → counted (put_last added (signature.path ++ i ∷ rest) document) ≡ counted document

-- So does each item.
abbrev pub ItemKeepsCounted : Type 0
ItemKeepsCounted = (document : Nodes) (signature : Spot) (item : Item) → TakesItem document signature item
    → counted (with_item document signature item) ≡ counted document

-- An element of the document stands in the new one, with the same name and attributes in the same scope.
abbrev pub KeepsSpots : Type 0
KeepsSpots = (document added : Nodes) (host : Path) → IsElementAt document host → (spot : Spot) → IsSpot document spot
    → IsSpot (put_last added host document) spot

-- A signature that has taken an item is free again.
abbrev pub StaysFree : Type 0
StaysFree = (document : Nodes) (signature : Spot) (item : Item) → TakesItem document signature item → IsFree (with_item document signature item) signature
