use Rattle.std.proofs.Common.{◌≡◌, ◌<◌, ℕ, length, IsTrue, slice_index_or, false}
use Rattle.cert_paths.proofs.reaching.all_issuers.Given as goal

abbrev pub invariant-loop : goal.invariant-loop
invariant-loop l = (length l.reached.items ≡ l.counter) × ((k : ℕ) → k < l.counter → IsTrue (slice_index_or l.reached.items k false))
