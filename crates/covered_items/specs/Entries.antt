-- What an item adds to what a signature covers. This project's own, over the octets that XML Signature 1.1, "Core Generation", and
-- EN 319 132-1, clauses 5.3 and 5.5.2, have signed and stamped.
use Rattle.std.specs.Prelude.{◌≡◌, List, [], ◌∷◌, ◌++◌}
use Rattle.document_model.specs.Tree.{Nodes}
use Rattle.signature_model.specs.Spots.{Spot}
use Rattle.signature_model.specs.Parts.{SignatureStamp, ArchiveStamp, properties}
use Rattle.signature_model.specs.Chains.{Handed}
use Rattle.signature_model.specs.Octets.{value_octets, next_octets}
use Rattle.signature_model.specs.Covers.{Entry, Signed, Stamped, stamped, covers}
use Rattle.signature_model.specs.Fragments.{Item, Value, Stamp, Data, Archive, with_item}
use Rattle.signature_model.specs.Keeping.{TakesItem}
use Rattle.covered_items.specs.Whole.{HasBytes}

-- A value adds the octets that were to be signed, and behind them the time-stamps that a document without a value may hold; a time-stamp
-- the octets that were to be stamped next; validation data nothing.
abbrev pub entries_of : Handed → Nodes → Spot → Item → List Entry
entries_of handed document signature (Value octets) =
    Signed octets (value_octets document signature)
    ∷ stamped handed (with_item document signature (Value octets)) signature [] (properties (with_item document signature (Value octets)) signature)
entries_of handed document signature (Stamp token) = Stamped token (next_octets SignatureStamp handed document signature) ∷ []
entries_of handed document signature (Data certificates lists) = []
entries_of handed document signature (Archive token) = Stamped token (next_octets ArchiveStamp handed document signature) ∷ []

-- a value has an octet
abbrev pub IsSomething : Item → Type 0
IsSomething (Value octets) = octets ≡ [] → ⊥
IsSomething item = Unit {0}

-- The law: just this stands behind what was covered.
abbrev pub ItemCoversTheNextOctets : Type 0
ItemCoversTheNextOctets = (handed : Handed) (document : Nodes) (signature : Spot) (item : Item)
    → HasBytes item → IsSomething item → TakesItem document signature item
    → covers handed (with_item document signature item) signature ≡ covers handed document signature ++ entries_of handed document signature item
