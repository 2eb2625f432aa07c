-- DER elements, written: X.690, 8.1 (identifier, length and contents) and 10.1 (definite lengths in the fewest bytes).
use Rattle.std.specs.Prelude.{ℕ, ◌+◌, ◌==◌, List, [], ◌∷◌, ◌++◌, length, drop, nat_lt, if◌then◌else◌}
use Rattle.std.specs.Int.{w64, to_be_bytes}

-- how many zeros stand in front
abbrev pub leading_zeros_of : List ℕ → ℕ
leading_zeros_of [] = 0
leading_zeros_of (byte ∷ bytes) = if byte == 0 then 1 + leading_zeros_of bytes else 0

-- a number in the fewest bytes, the first the highest
abbrev pub fewest_bytes : ℕ → List ℕ
fewest_bytes number = drop (leading_zeros_of (to_be_bytes w64 number)) (to_be_bytes w64 number)

-- the length octets (X.690, 8.1.3 and 10.1): one byte below 128, else 128 and how many follow, and then these
unfoldable pub length_octets : ℕ → List ℕ
length_octets size = if nat_lt size 128 then size ∷ [] else ((128 + length (fewest_bytes size)) ∷ fewest_bytes size)

-- the element of a tag with this content
unfoldable pub tlv : ℕ → List ℕ → List ℕ
tlv tag content = tag ∷ length_octets (length content) ++ content
