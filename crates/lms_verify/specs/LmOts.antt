-- LM-OTS of RFC 8554 with SHA-256 and n = 32, as functions on lists of octets. Section numbers are the RFC's.
use Rattle.std.specs.Prelude.{ℕ, zero, suc, ◌+◌, ◌-◌, ◌*◌, ◌/◌, ◌%◌, ◌^◌, List, [], ◌∷◌, ◌++◌, take, drop, slice_index}
use Rattle.std.specs.Int.{w16, w32, to_be_bytes}
use Rattle.sha2.specs.Sha256.{sha256}

-- u8str, u16str and u32str (3.1.1)
abbrev pub u8str : ℕ → List ℕ
u8str n = n ∷ []

abbrev pub u16str : ℕ → List ℕ
u16str n = to_be_bytes w16 n

abbrev pub u32str : ℕ → List ℕ
u32str n = to_be_bytes w32 n

-- the i-th of the 32-octet values that stand one after another in s
abbrev pub value_at : List ℕ → ℕ → List ℕ
value_at s i = take 32 (drop (32 * i) s)

-- coef (3.1.3): the i-th w-bit part of s
abbrev pub coef : List ℕ → ℕ → ℕ → ℕ
coef s i w = slice_index s (i * w / 8) / 2 ^ (8 - (w * (i % (8 / w)) + w)) % 2 ^ w

-- what the first n digits of s lack to the greatest digit, in all
unfoldable pub lacking : ℕ → List ℕ → ℕ → ℕ
lacking w s zero = 0
lacking w s (suc n) = lacking w s n + (2 ^ w - 1 - coef s n w)

-- Cksm (4.4)
abbrev pub checksum : (w ls : ℕ) → List ℕ → ℕ
checksum w ls s = lacking w s (256 / w) * 2 ^ ls

-- what a step from a value hashes: I || u32str(q) || u16str(i) || u8str(j) || tmp (4.6, algorithm 4b)
abbrev pub step_text : List ℕ → (q i j : ℕ) → List ℕ → List ℕ
step_text id q i j value = id ++ u32str q ++ u16str i ++ u8str j ++ value

-- one step up a chain, from step j (4.6, algorithm 4b)
unfoldable pub step : List ℕ → (q i j : ℕ) → List ℕ → List ℕ
step id q i j value = sha256 (step_text id q i j value)

-- the value n steps up chain i from its value at step a
unfoldable pub chain : List ℕ → (q i a : ℕ) → ℕ → List ℕ → List ℕ
chain id q i a zero value = value
chain id q i a (suc n) value = step id q i (a + n) (chain id q i a n value)

-- the end of chain i of the signature y of the digits s (4.6, algorithm 4b, step 3)
abbrev pub end : (w : ℕ) → List ℕ → ℕ → (s y : List ℕ) → ℕ → List ℕ
end w id q s y i = chain id q i (coef s i w) (2 ^ w - 1 - coef s i w) (value_at y i)

-- the ends of the first n chains, joined
unfoldable pub ends : (w : ℕ) → List ℕ → ℕ → (s y : List ℕ) → ℕ → List ℕ
ends w id q s y zero = []
ends w id q s y (suc n) = ends w id q s y n ++ end w id q s y n

-- Q: H(I || u32str(q) || u16str(D_MESG) || C || message)
unfoldable pub message_digest : List ℕ → ℕ → (c message : List ℕ) → List ℕ
message_digest id q c message = sha256 (id ++ u32str q ++ u16str 0x8181 ++ c ++ message)

-- Q || Cksm(Q)
unfoldable pub digits : (w ls : ℕ) → List ℕ → List ℕ
digits w ls digest = digest ++ u16str (checksum w ls digest)

-- Kc, the public key candidate of the signature C, y of a message: algorithm 4b (4.6)
unfoldable pub candidate : (w p ls : ℕ) → List ℕ → ℕ → (c y message : List ℕ) → List ℕ
candidate w p ls id q c y message =
    sha256 (id ++ u32str q ++ u16str 0x8080 ++ ends w id q (digits w ls (message_digest id q c message)) y p)
