-- The characters of a text node: those of the items that its place spans.
use Rattle.std.specs.Prelude.{◌≡◌, ℕ, zero, suc, ◌+◌, ◌-◌, ◌<◌, ◌≤◌, ◌==◌, ◌||◌, not, Bool, true, get_or, List, [], ◌∷◌, ◌++◌, length, drop, Some, if◌then◌else◌}
use Rattle.std.specs.Option.{option_map_or}
use Rattle.document_model.specs.Items.{Item, Piece, piece_at, character, reference, cdata}
use Rattle.document_model.specs.Tree.{Nodes, Text, node_at}
use Rattle.document_model.specs.Places.{Place}

-- the characters that an item adds to a text
abbrev pub text_added_by : Item → List ℕ
text_added_by (character c) = c ∷ []
text_added_by (reference c) = c ∷ []
text_added_by (cdata cs) = cs
text_added_by item = []

-- whether an item is part of a text
abbrev pub IsPartOfText : Item → Type 0
IsPartOfText (character c) = Unit {0}
IsPartOfText (reference c) = Unit {0}
IsPartOfText (cdata cs) = Unit {0}
IsPartOfText item = ⊥

abbrev pub AreTexts : List Piece → Type 0
AreTexts [] = Unit {0}
AreTexts (piece ∷ pieces) = IsPartOfText piece.item × AreTexts pieces

abbrev pub text_added : List Piece → List ℕ
text_added [] = []
text_added (piece ∷ pieces) = text_added_by piece.item ++ text_added pieces

-- pieces that stand in bytes, one after another, from a place to another
abbrev pub StandFrom : List ℕ → ℕ → ℕ → List Piece → Type 0
StandFrom bytes start end [] = start ≡ end
StandFrom bytes start end (piece ∷ pieces) =
    (piece_at (drop start bytes) ≡ Some (piece, drop (start + length piece.text) bytes)) × StandFrom bytes (start + length piece.text) end pieces

-- where a text node has this place, its characters are those of the items there
abbrev pub IsTextOf : List ℕ → Nodes → Place → Type 0
IsTextOf bytes tree place = (cs : List ℕ) → node_at tree place.path ≡ Some (Text cs)
    → (pieces : List Piece) × StandFrom bytes place.start place.end pieces × AreTexts pieces × (text_added pieces ≡ cs)

-- from a place to another stand items of a text alone
abbrev pub HoldText : List ℕ → ℕ → ℕ → Type 0
HoldText bytes start end = (pieces : List Piece) × StandFrom bytes start end pieces × AreTexts pieces

-- the characters of the items from a place to another, at most n of them
abbrev pub text_of_items : ℕ → List ℕ → ℕ → ℕ → List ℕ
text_of_items zero bytes start end = []
text_of_items (suc n) bytes start end =
    if start == end then []
    else option_map_or (λ found. text_added_by found.0.item ++ text_of_items n bytes (start + length found.0.text) end) (piece_at (drop start bytes)) []

-- the characters of all items from a place to another: each has a byte at least
abbrev pub text_between : List ℕ → ℕ → ℕ → List ℕ
text_between bytes start end = text_of_items (end - start) bytes start end

-- Bytes that begin no reference, no markup and no line end.

abbrev pub is_literal_byte : ℕ → Bool
is_literal_byte b = not ((b == 0x3C) || (b == 0x26) || (b == 0xD))

abbrev pub AreLiteral : List ℕ → ℕ → ℕ → Type 0
AreLiteral bytes start end = (k : ℕ) → start ≤ k → k < end → is_literal_byte (get_or bytes k 0) ≡ true
