-- Items whose octets are bytes, and whole objects. What an item is: signature_model, after EN 319 132-1, clauses 5.3, 5.4 and 5.5. Which
-- octets are a whole certificate, list or token is handed in: RFC 5280, sections 4.1 and 5.1; RFC 3161, section 2.4.2.
use Rattle.std.specs.Prelude.{◌≡◌, ℕ, Bool, true, List, [], ◌∷◌}
use Rattle.base64.specs.GeneralPurpose.{IsBytes}
use Rattle.signature_model.specs.Parts.{DatumKind, Certificate, RevocationList, Token}
use Rattle.signature_model.specs.Fragments.{Item, Value, Stamp, Data, Archive}

abbrev pub EachBytes : List (List ℕ) → Type 0
EachBytes [] = Unit {0}
EachBytes (octets ∷ others) = IsBytes octets × EachBytes others

-- the item's octets are bytes
abbrev pub HasBytes : Item → Type 0
HasBytes (Value octets) = IsBytes octets
HasBytes (Stamp token) = IsBytes token
HasBytes (Data certificates lists) = EachBytes certificates × EachBytes lists
HasBytes (Archive token) = IsBytes token

-- octets of objects that are bytes, and whole objects of a kind
abbrev pub AreWhole : (DatumKind → List ℕ → Bool) → DatumKind → List (List ℕ) → Type 0
AreWhole is_whole kind [] = Unit {0}
AreWhole is_whole kind (octets ∷ others) = IsBytes octets × (is_whole kind octets ≡ true) × AreWhole is_whole kind others

-- the item's octets are bytes, and whole objects of their kinds
abbrev pub IsWholeItem : (DatumKind → List ℕ → Bool) → Item → Type 0
IsWholeItem is_whole (Value octets) = IsBytes octets
IsWholeItem is_whole (Stamp token) = IsBytes token × (is_whole Token token ≡ true)
IsWholeItem is_whole (Data certificates lists) = AreWhole is_whole Certificate certificates × AreWhole is_whole RevocationList lists
IsWholeItem is_whole (Archive token) = IsBytes token × (is_whole Token token ≡ true)
