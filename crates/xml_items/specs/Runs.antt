-- Characters of one byte that stand for themselves wherever a text goes on.
use Rattle.std.specs.Prelude.{ℕ, Bool, [], ◌∷◌, not, ◌||◌, ◌&&◌, ◌==◌, nat_le}
use Rattle.document_model.specs.Characters.{in_ranges}

-- tab, line feed and printable ASCII, without what may begin or end markup: `&`, `<`, `>` and `]`
abbrev pub is_ordinary : ℕ → Bool
is_ordinary = in_ranges ((0x9, 0xA) ∷ (0x20, 0x25) ∷ (0x27, 0x3B) ∷ (0x3D, 0x3D) ∷ (0x3F, 0x5C) ∷ (0x5E, 0x7E) ∷ [])

-- none of `<`, `&` and CR
abbrev pub is_literal : ℕ → Bool
is_literal b = not ((b == 0x3C) || (b == 0x26) || (b == 0xD))

-- none of `<`, `&`, `>` and CR
abbrev pub is_unescaped : ℕ → Bool
is_unescaped b = not ((b == 0x3C) || (b == 0x26) || (b == 0x3E) || (b == 0xD))

-- a character that stands for itself wherever a text goes on: such a byte, or a Char past ASCII
abbrev pub is_text : ℕ → Bool
is_text = in_ranges ((0x9, 0xA) ∷ (0x20, 0x25) ∷ (0x27, 0x3B) ∷ (0x3D, 0x3D) ∷ (0x3F, 0x5C) ∷ (0x5E, 0x7E) ∷ (0x80, 0xD7FF) ∷ (0xE000, 0xFFFD) ∷ (0x10000, 0x10FFFF) ∷ [])

-- a byte of a text whose characters all stand for themselves: none of U+F000 to U+FFFF is among them, so neither U+FFFE nor U+FFFF
abbrev pub is_common : ℕ → Bool
is_common b = (is_ordinary b || nat_le 128 b) && not (b == 0xEF)
