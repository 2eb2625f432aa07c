use Rattle.std.proofs.Common.{ℕ, ◌<◌, slice_get}
use Rattle.existence_times.specs.Kept.{HasNumber}
use Rattle.existence_times.proofs.case.find_object.Given as goal

abbrev pub invariant-loop-number : goal.invariant-loop-number
invariant-loop-number l = (k : ℕ) → k < l.number → HasNumber l.object.number (slice_get l.rows k) → ⊥
