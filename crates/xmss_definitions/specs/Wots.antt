-- WOTS+ of RFC 8391 with SHA-256, n = 32 and w = 16, as functions on lists of octets. Section numbers are the RFC's.
use Rattle.std.specs.Prelude.{ℕ, zero, suc, ◌+◌, ◌-◌, ◌*◌, ◌/◌, ◌%◌, ◌^◌, List, [], ◌∷◌, ◌++◌, slice_index}
use Rattle.std.specs.Int.{w16, to_be_bytes}
use Rattle.sha2.specs.Sha256.{sha256}
use Rattle.xmss_definitions.specs.Octets.{to_byte, value_at, xor}
use Rattle.xmss_definitions.specs.Address.{Tree, Place, chain_step, address_octets}

-- SHA2-256(toByte(n, 32) || KEY || M), which is F, H, H_msg and PRF for n = 0, 1, 2, 3 (5.1)
unfoldable pub keyed : ℕ → (key m : List ℕ) → List ℕ
keyed n key m = sha256 (to_byte n 32 ++ key ++ m)

-- PRF under SEED, at an address of the tree (5.1)
unfoldable pub prf : Tree → Place → (mask : ℕ) → List ℕ
prf tree place mask = keyed 3 tree.seed (address_octets tree.layer tree.number place mask)

-- F on a masked value, the inner step of chain (3.1.2, algorithm 2)
unfoldable pub step : Tree → (leaf i j : ℕ) → List ℕ → List ℕ
step tree leaf i j value =
    let place = chain_step leaf i j in keyed 0 (prf tree place 0) (xor value (prf tree place 1))

-- chain (3.1.2, algorithm 2): the value n steps up chain i from its value at step a
unfoldable pub chain : Tree → (leaf i a : ℕ) → ℕ → List ℕ → List ℕ
chain tree leaf i a zero value = value
chain tree leaf i a (suc n) value = step tree leaf i (a + n) (chain tree leaf i a n value)

-- the i-th digit of base_w (2.6) at w = 16
abbrev pub digit : List ℕ → ℕ → ℕ
digit s i = slice_index s (i / 2) / 16 ^ (1 - i % 2) % 16

-- what the first n digits of s lack to 15, in all
unfoldable pub lacking : List ℕ → ℕ → ℕ
lacking s zero = 0
lacking s (suc n) = lacking s n + (15 - digit s n)

-- the message and its checksum of 64 digits, shifted left by 4 bits (3.1.5, algorithm 5)
unfoldable pub digits : List ℕ → List ℕ
digits digest = digest ++ to_be_bytes w16 (lacking digest 64 * 2 ^ 4)

-- WOTS_pkFromSig (3.1.6, algorithm 6): the ends of the first n chains of the signature y of the digits s
unfoldable pub ends : Tree → ℕ → (s y : List ℕ) → ℕ → List (List ℕ)
ends tree leaf s y zero = []
ends tree leaf s y (suc n) = ends tree leaf s y n ++ chain tree leaf n (digit s n) (15 - digit s n) (value_at y n) ∷ []
