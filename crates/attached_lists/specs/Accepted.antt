-- Files that are read, and items that are accepted for them one after another. This project's own, over the items of EN 319 132-1, clauses
-- 5.3, 5.4 and 5.5.
use Rattle.std.specs.Prelude.{◌≡◌, ℕ, Bool, List, [], ◌∷◌, None}
use Rattle.document_model.specs.Documents.{fault, document_of}
use Rattle.signature_model.specs.Spots.{Spot}
use Rattle.signature_model.specs.Parts.{DatumKind}
use Rattle.signature_model.specs.Fragments.{Item, bytes_with_item}
use Rattle.signature_model.specs.Keeping.{MayTake}
use Rattle.covered_items.specs.Whole.{IsWholeItem}
use Rattle.attached_items.specs.ReadAgain.{IsReadFree}

-- The file has no fault, and is read with a signature, which is free.
pub record IsReadFile (is_whole : DatumKind → List ℕ → Bool) (signature : Spot) (bytes : List ℕ) : Type 0 where
  pub right : fault bytes ≡ None
  pub is_read : IsReadFree is_whole (document_of bytes) signature

-- What an accepted item has shown: a value comes to a signature without one, all else to one with a value; its octets are bytes and whole
-- objects of their kinds; and the new file passes no limit.
pub record IsAccepted (is_whole : DatumKind → List ℕ → Bool) (signature : Spot) (bytes : List ℕ) (item : Item) : Type 0 where
  pub may : MayTake (document_of bytes) signature item
  pub whole : IsWholeItem is_whole item
  pub fits : fault (bytes_with_item (document_of bytes) signature item bytes) ≡ None

-- The file after some items, each put into the file that the earlier ones gave.
abbrev pub bytes_with_items : Spot → List Item → List ℕ → List ℕ
bytes_with_items signature [] bytes = bytes
bytes_with_items signature (item ∷ items) bytes = bytes_with_items signature items (bytes_with_item (document_of bytes) signature item bytes)

abbrev pub AreAccepted : (DatumKind → List ℕ → Bool) → Spot → List ℕ → List Item → Type 0
AreAccepted is_whole signature bytes [] = Unit {0}
AreAccepted is_whole signature bytes (item ∷ items) =
    IsAccepted is_whole signature bytes item × AreAccepted is_whole signature (bytes_with_item (document_of bytes) signature item bytes) items
