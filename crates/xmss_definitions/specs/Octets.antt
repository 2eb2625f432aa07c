-- Numbers as octets (RFC 8391, section 2.4), and parts of octet strings.
use Rattle.std.specs.Prelude.{ℕ, List, [], ◌∷◌, ◌*◌, take, drop, bit_xor}
use Rattle.std.specs.Int.{bytes_high_first}

-- toByte(x, y) (2.4)
unfoldable pub to_byte : ℕ → ℕ → List ℕ
to_byte x y = bytes_high_first y x

-- the n octets from place i
abbrev pub part : List ℕ → (i n : ℕ) → List ℕ
part s i n = take n (drop i s)

-- the i-th of the 32-octet values that stand one after another in s
abbrev pub value_at : List ℕ → ℕ → List ℕ
value_at s i = take 32 (drop (32 * i) s)

-- XOR of two octet strings, octet by octet
unfoldable pub xor : (a b : List ℕ) → List ℕ
xor [] b = []
xor (x ∷ a) [] = []
xor (x ∷ a) (y ∷ b) = bit_xor x y ∷ xor a b
