use Rattle.std.proofs.Common.{ℕ, ◌<◌, IsTrue}
use Rattle.cert_paths.specs.Tables.{bit}
use Rattle.cert_paths.proofs.reaching.has_issuer.Given as goal

abbrev pub invariant-loop-column : goal.invariant-loop-column
invariant-loop-column l = (k : ℕ) → k < l.column → IsTrue (bit l.signed l.row k) → ⊥
