use Rattle.std.proofs.Common.{◌≡◌, ℕ, ◌<◌, ◌≤ℤ◌, slice_get, Some}
use Rattle.acceptance.specs.Walks.{time}
use Rattle.existence_times.specs.declared.rows.StampRow.{StampRow}
use Rattle.existence_times.specs.Kept.{row_stamp}
use Rattle.existence_times.proofs.orders.are_within.Given as goal

abbrev pub invariant-loop-number : goal.invariant-loop-number
invariant-loop-number l = (j : ℕ) (row : StampRow) → j < l.number → slice_get l.stamps j ≡ Some row
    → (row_stamp l.tokens row).token.gen_time ≤ℤ time l.limits row.object.number
