-- The laws on the files that accepted items give: what holds of each two of them, and what each spells. This project's own.
use Rattle.std.specs.Prelude.{◌≡◌, ℕ, ◌≤◌, Bool, List, ◌++◌, take}
use Rattle.document_model.specs.Documents.{document_of}
use Rattle.document_model.specs.Insertion.{Extends}
use Rattle.signature_model.specs.Spots.{Spot}
use Rattle.signature_model.specs.Parts.{DatumKind}
use Rattle.signature_model.specs.Chains.{Handed}
use Rattle.signature_model.specs.Covers.{covers}
use Rattle.signature_model.specs.Fragments.{Item}
use Rattle.signature_model.specs.Keeping.{GoesOn, with_items}
use Rattle.attached_lists.specs.Accepted.{IsReadFile, bytes_with_items, AreAccepted}

-- The file after the first i items
abbrev pub file_after : Spot → List Item → List ℕ → ℕ → List ℕ
file_after signature items bytes i = bytes_with_items signature (take i items) bytes

-- One file and a later one: both are read with the same signature, which is free; what it covers in the later one is what it covers in the
-- earlier one and more behind; and the later one is the earlier one with bytes put in.
pub record Holds (is_whole : DatumKind → List ℕ → Bool) (signature : Spot) (earlier later : List ℕ) : Type 0 where
  pub earlier_read : IsReadFile is_whole signature earlier
  pub later_read : IsReadFile is_whole signature later
  pub covered : (handed : Handed) → GoesOn (covers handed (document_of earlier) signature) (covers handed (document_of later) signature)
  pub extends : Extends earlier later

-- The law: so it is with any two of the files that accepted items give, F0 the first.
abbrev pub ItemsHold : Type 0
ItemsHold = (is_whole : DatumKind → List ℕ → Bool) (signature : Spot) (bytes : List ℕ) (items : List Item) (i j : ℕ) → i ≤ j
    → IsReadFile is_whole signature bytes → AreAccepted is_whole signature bytes items
    → Holds is_whole signature (file_after signature items bytes i) (file_after signature items bytes j)

-- And each file spells the tree that the items give.
abbrev pub FilesAreSpelled : Type 0
FilesAreSpelled = (is_whole : DatumKind → List ℕ → Bool) (signature : Spot) (bytes : List ℕ) (items : List Item)
    → IsReadFile is_whole signature bytes → AreAccepted is_whole signature bytes items
    → document_of (bytes_with_items signature items bytes) ≡ with_items (document_of bytes) signature items

-- Items in one call and in several calls give the same file.
abbrev pub CallsCompose : Type 0
CallsCompose = (signature : Spot) (bytes : List ℕ) (first second : List Item)
    → bytes_with_items signature (first ++ second) bytes ≡ bytes_with_items signature second (bytes_with_items signature first bytes)
