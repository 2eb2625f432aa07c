use Rattle.std.proofs.Common.{◌≡◌, ℕ, ◌<◌, ◌≤ℤ◌, slice_get, Some}
use Rattle.acceptance.specs.Walks.{time}
use Rattle.cert_paths.specs.declared.object.ObjectId.{ObjectId}
use Rattle.existence_times.proofs.rounds.is_met.Given as goal

abbrev pub invariant-loop-k : goal.invariant-loop-k
invariant-loop-k l = (j : ℕ) (o : ObjectId) → j < l.k → slice_get l.covers j ≡ Some o → time l.times o.number ≤ℤ l.bound
