-- The number of four octets at the front of a made XMSS key and signature.
use Rattle.std.proofs.Common.{◌≡◌, ℕ, ◌^◌, ◌<◌, List, ◌++◌}
use Rattle.std.proofs.lemmas.Nat.{from_be_bytes-to_be_bytes_4}
use Rattle.xmss_definitions.specs.Address.{word}
use Rattle.xmss_definitions.specs.Keys.{u32_at}

pub u32_front : (n : ℕ) (rest : List ℕ) → n < 2 ^ 32 → u32_at (word n ++ rest) 0 ≡ n
unfolding u32_at
u32_front n rest h = from_be_bytes-to_be_bytes_4 n h
