-- The law that an item is spelled where it is put in. The fragments are signature_model's, after EN 319 132-1, clauses 5.3, 5.4 and 5.5.
use Rattle.std.specs.Prelude.{◌≡◌, ℕ, List, ◌∷◌, None}
use Rattle.document_model.specs.Tree.{Path, IsElementAt}
use Rattle.document_model.specs.Documents.{fault, document_of}
use Rattle.signature_model.specs.Spots.{Spot}
use Rattle.signature_model.specs.Fragments.{Item, place_of, with_item, bytes_with_item}
use Rattle.covered_items.specs.Whole.{HasBytes}
use Rattle.insertions.specs.Content.{SpellsWithin}

-- The law: an item put into the document that bytes spell gives bytes that spell the document with the item, unless this passes a limit.
abbrev pub ItemsAreSpelled : Type 0
ItemsAreSpelled = (bytes : List ℕ) (signature : Spot) (item : Item) (path : Path) (others : List Path)
    → fault bytes ≡ None → HasBytes item → place_of (document_of bytes) signature item ≡ path ∷ others → IsElementAt (document_of bytes) path
    → SpellsWithin (bytes_with_item (document_of bytes) signature item bytes) (with_item (document_of bytes) signature item)
