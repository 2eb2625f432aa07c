use Rattle.std.proofs.Common.{◌≡◌, ◌<◌, ◌↔◌, ℕ, length, IsTrue, slice_index_or, false}
use Rattle.cert_paths.proofs.table.row.Given as goal

abbrev pub invariant-loop-column : goal.invariant-loop-column
invariant-loop-column g l =
    (length l.bits.items ≡ l.column)
    × ((k : ℕ) → k < l.column → (IsTrue (slice_index_or l.bits.items k false) ↔ g.R.Relation.holds l.relation l.row k))
