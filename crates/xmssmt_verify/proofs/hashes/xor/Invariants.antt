use Rattle.std.proofs.Common.{◌≡◌, ℕ, ◌<◌, length, get_or}
use Rattle.std.specs.Prelude.{bit_xor}
use Rattle.xmssmt_verify.proofs.hashes.xor.Given as goal

abbrev pub invariant-octets : goal.invariant-octets
invariant-octets l = (length l.out ≡ 32) × ((k : ℕ) → k < l.i → get_or l.out k 0 ≡ bit_xor (get_or l.a k 0) (get_or l.b k 0))
