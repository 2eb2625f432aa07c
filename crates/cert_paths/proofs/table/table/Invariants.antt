use Rattle.std.proofs.Common.{◌≡◌, ◌<◌, ◌↔◌, ℕ, length, IsTrue}
use Rattle.cert_paths.specs.Tables.{bit}
use Rattle.cert_paths.proofs.table.table.Given as goal

abbrev pub invariant-loop-number : goal.invariant-loop-number
invariant-loop-number g l =
    (length l.rows.items ≡ l.number)
    × ((row column : ℕ) → row < l.number → column < g.R.Relation.columns l.relation → (IsTrue (bit l.rows.items row column) ↔ g.R.Relation.holds l.relation row column))
