use Rattle.std.proofs.Common.{◌<◌, ℕ, IsTrue}
use Rattle.cert_paths.specs.Tables.{bit}
use Rattle.cert_paths.proofs.status.has_list.Given as goal

abbrev pub invariant-loop-number : goal.invariant-loop-number
invariant-loop-number l = (k : ℕ) → k < l.number → IsTrue (bit l.speaks k l.issuer) → ⊥
