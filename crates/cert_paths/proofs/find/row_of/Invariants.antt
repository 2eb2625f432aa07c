use Rattle.std.proofs.Common.{ℕ, ◌<◌, slice_get}
use Rattle.cert_paths.specs.Rows.{HasBytes}
use Rattle.cert_paths.proofs.find.row_of.Given as goal

abbrev pub invariant-loop-number : goal.invariant-loop-number
invariant-loop-number l = (k : ℕ) → k < l.number → HasBytes l.leaf (slice_get l.rows k) → ⊥
