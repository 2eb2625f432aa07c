-- Keys, and the digest of a message (RFC 8391, sections 4.1.7, 4.1.9, 4.2.2 and 4.2.4).
use Rattle.std.specs.Prelude.{ℕ, List, [], ◌∷◌, ◌+◌, ◌++◌, slice_index}
use Rattle.std.specs.Int.{w32, from_be_bytes}
use Rattle.xmss_definitions.specs.Octets.{to_byte, part}
use Rattle.xmss_definitions.specs.Wots.{keyed}

-- the number of the four octets from place i
unfoldable pub u32_at : List ℕ → ℕ → ℕ
u32_at s i = from_be_bytes w32 (slice_index s i ∷ slice_index s (i + 1) ∷ slice_index s (i + 2) ∷ slice_index s (i + 3) ∷ [])

-- a key is OID || root || SEED (4.1.7, 4.2.2), 68 octets
abbrev pub root_of : List ℕ → List ℕ
root_of key = part key 4 32

abbrev pub seed_of : List ℕ → List ℕ
seed_of key = part key 36 32

-- M' (algorithms 14 and 17)
unfoldable pub message_digest : (r root : List ℕ) → ℕ → List ℕ → List ℕ
message_digest r root idx message = keyed 2 (r ++ root ++ to_byte idx 32) message
