use Rattle.std.proofs.Common.{ℕ, ◌<◌, slice_get}
use Rattle.existence_times.specs.Kept.{HasBytes}
use Rattle.existence_times.proofs.case.find_bytes.Given as goal

abbrev pub invariant-loop-number : goal.invariant-loop-number
invariant-loop-number l = (k : ℕ) → k < l.number → HasBytes l.bytes (slice_get l.rows k) → ⊥
