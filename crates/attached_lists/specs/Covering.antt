-- What accepted items add to what a signature covers, over what each of them adds. This project's own.
use Rattle.std.specs.Prelude.{◌≡◌, ℕ, Bool, List, [], ◌∷◌, ◌++◌}
use Rattle.document_model.specs.Documents.{document_of}
use Rattle.signature_model.specs.Spots.{Spot}
use Rattle.signature_model.specs.Parts.{DatumKind}
use Rattle.signature_model.specs.Chains.{Handed}
use Rattle.signature_model.specs.Covers.{Entry, covers}
use Rattle.signature_model.specs.Fragments.{Item, bytes_with_item}
use Rattle.covered_items.specs.Entries.{entries_of, IsSomething}
use Rattle.attached_lists.specs.Accepted.{IsReadFile, bytes_with_items, AreAccepted}

-- What accepted items add to what the signature covers, item by item.
abbrev pub entries_of_items : Handed → Spot → List Item → List ℕ → List Entry
entries_of_items handed signature [] bytes = []
entries_of_items handed signature (item ∷ items) bytes =
    entries_of handed (document_of bytes) signature item ++ entries_of_items handed signature items (bytes_with_item (document_of bytes) signature item bytes)

abbrev pub AreSomething : List Item → Type 0
AreSomething [] = Unit {0}
AreSomething (item ∷ items) = IsSomething item × AreSomething items

-- The law: just these stand behind what was covered.
abbrev pub FilesCover : Type 0
FilesCover = (is_whole : DatumKind → List ℕ → Bool) (handed : Handed) (signature : Spot) (bytes : List ℕ) (items : List Item)
    → IsReadFile is_whole signature bytes → AreAccepted is_whole signature bytes items → AreSomething items
    → covers handed (document_of (bytes_with_items signature items bytes)) signature
    ≡ covers handed (document_of bytes) signature ++ entries_of_items handed signature items bytes
