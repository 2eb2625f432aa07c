use Rattle.std.proofs.Common.{◌<◌, ℕ, None, IsTrue, slice_index_or}
use Rattle.cert_paths.specs.Status.{IsBy}
use Rattle.cert_paths.specs.Tables.{bit}
use Rattle.cert_paths.proofs.status.is_revoked.Given as goal

abbrev pub invariant-loop-number : goal.invariant-loop-number
invariant-loop-number l = (k : ℕ) → k < l.number → IsBy l.at (slice_index_or l.dates k None) → IsTrue (bit l.speaks k l.issuer) → ⊥
