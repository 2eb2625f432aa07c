-- The laws on a signature that has taken an item: it has its parts, is read and is free again, and an item's place is an element. This
-- project's own, over the parts of XML Signature 1.1, "Core Signature Syntax", and EN 319 132-1, clauses 4.3 and 5.
use Rattle.std.specs.Prelude.{◌≡◌, ℕ, Bool, List, [], ◌∷◌}
use Rattle.base64.specs.GeneralPurpose.{IsBytes}
use Rattle.document_model.specs.Tree.{Nodes, Path, IsElementAt}
use Rattle.signature_model.specs.Spots.{Spot}
use Rattle.signature_model.specs.Parts.{DatumKind, stamps}
use Rattle.signature_model.specs.Chains.{Handed}
use Rattle.signature_model.specs.Octets.{value_octets}
use Rattle.signature_model.specs.Readable.{answer, Read, HasParts}
use Rattle.signature_model.specs.Covers.{Signed, IsFree}
use Rattle.signature_model.specs.Fragments.{Item, Value, place_of, with_item}
use Rattle.signature_model.specs.Keeping.{IsSpot, MayTake, TakesItem}
use Rattle.covered_items.specs.Entries.{entries_of}
use Rattle.covered_items.specs.Whole.{IsWholeItem}

-- A signature with parts, of whatever other signatures the document has, has its parts again and is free again once it has taken a whole
-- item.
abbrev pub ItemHasPartsAgain : Type 0
ItemHasPartsAgain = (is_whole : DatumKind → List ℕ → Bool) (document : Nodes) (signature : Spot) (item : Item)
    → IsWholeItem is_whole item → TakesItem document signature item → HasParts is_whole document signature
    → HasParts is_whole (with_item document signature item) signature × IsFree (with_item document signature item) signature

-- The document is read with a signature, which is free.
pub record IsReadFree (is_whole : DatumKind → List ℕ → Bool) (document : Nodes) (signature : Spot) : Type 0 where
  pub read : answer is_whole document ≡ Read signature
  pub free : IsFree document signature

-- So is the document that a whole item gives, with the same signature. A value may come to a signature without one, all else to one with
-- a value.
abbrev pub ItemIsReadAgain : Type 0
ItemIsReadAgain = (is_whole : DatumKind → List ℕ → Bool) (document : Nodes) (signature : Spot) (item : Item)
    → IsWholeItem is_whole item → IsReadFree is_whole document signature → MayTake document signature item
    → IsReadFree is_whole (with_item document signature item) signature

-- The place of an item in a document with the signature is that of an element.
abbrev pub PlacesAreElements : Type 0
PlacesAreElements = (document : Nodes) (signature : Spot) (item : Item) (path : Path) (others : List Path) → IsSpot document signature
    → place_of document signature item ≡ path ∷ others → IsElementAt document path

-- In a document without time-stamps a value is all that it adds to what the signature covers.
abbrev pub ValueIsCoveredAlone : Type 0
ValueIsCoveredAlone = (handed : Handed) (document : Nodes) (signature : Spot) (octets : List ℕ) → IsBytes octets → TakesItem document signature (Value octets) → stamps document signature ≡ []
    → entries_of handed document signature (Value octets) ≡ Signed octets (value_octets document signature) ∷ []
