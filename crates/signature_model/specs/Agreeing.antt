-- The laws: what the definitions have in common with one another.
use Rattle.std.specs.Prelude.{◌≡◌, ℕ, ◌≤◌, Bool, List, Some, length}
use Rattle.document_model.specs.Documents.{document_of}
use Rattle.document_model.specs.Tree.{Nodes, Path}
use Rattle.document_model.specs.Methods.{form_at}
use Rattle.signature_model.specs.Spots.{Spot}
use Rattle.signature_model.specs.Parts.{DatumKind, form_in}
use Rattle.signature_model.specs.Readable.{answer, Read}
use Rattle.signature_model.specs.Chains.{Handed, NotBase64, fault}
use Rattle.signature_model.specs.Covers.{IsFree}
use Rattle.signature_model.specs.Fragments.{Item}
use Rattle.signature_model.specs.Keeping.{IsSpot, MayTake, TakesItem}

-- The form that a method or a transform names is the one that the definitions of canonical text read at its path.
abbrev pub FormsAgree : Type 0
FormsAgree = (document : Nodes) (spot : Spot) → IsSpot document spot → form_in document spot ≡ form_at document spot.path

-- A document that is read has a signature with a value and a host: it takes an item where it is free, and is signed or not as the item
-- asks.
abbrev pub ReadTakesItem : Type 0
ReadTakesItem = (is_whole : DatumKind → List ℕ → Bool) (document : Nodes) (signature : Spot) (item : Item)
    → answer is_whole document ≡ Read signature → IsFree document signature → MayTake document signature item
    → TakesItem document signature item

-- The place of a fault in base64 is at most the length of the document, or of the octets that are handed in.
abbrev pub PlacesAreWithin : Type 0
PlacesAreWithin = (n : ℕ) (handed : Handed) (bytes : List ℕ) (signature : Path) (references : List Spot) (k at : ℕ)
    → length bytes ≤ n → ((name octets : List ℕ) → handed name ≡ Some octets → length octets ≤ n)
    → fault handed (document_of bytes) signature references ≡ Some (NotBase64 k at) → at ≤ n
