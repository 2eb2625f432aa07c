use Rattle.std.proofs.Common.{ℕ, ◌<◌, IsTrue, slice_get}
use Rattle.policy_rules.specs.View.{rules}
use Rattle.cert_paths.specs.Status.{IsCurrentAt}
use Rattle.cert_paths.specs.Tables.{bit}
use Rattle.cert_paths.proofs.status.is_current.Given as goal

abbrev pub invariant-loop-number : goal.invariant-loop-number
invariant-loop-number l =
    (k : ℕ) → k < l.number → IsTrue (bit l.speaks k l.issuer) → IsCurrentAt (rules l.policy) l.times l.at l.end (slice_get l.rows k) → ⊥
