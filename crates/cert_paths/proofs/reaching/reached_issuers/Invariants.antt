use Rattle.std.proofs.Common.{◌≡◌, ◌<◌, ◌↔◌, ℕ, length, IsTrue, slice_index_or, false}
use Rattle.cert_paths.specs.Reached.{IsReached}
use Rattle.cert_paths.proofs.reaching.reached_issuers.Given as goal

abbrev pub invariant-loop-issuer : goal.invariant-loop-issuer
invariant-loop-issuer l =
    (length l.reached.items ≡ l.issuer)
    × ((k : ℕ) → k < l.issuer → (IsTrue (slice_index_or l.reached.items k false) ↔ IsReached l.first l.columns l.known l.signed k))
