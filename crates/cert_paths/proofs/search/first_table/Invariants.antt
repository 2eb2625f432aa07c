use Rattle.std.proofs.Common.{◌≡◌, ◌<◌, length}
use Rattle.cert_paths.specs.Numbered.{LeadsWithin}
use Rattle.cert_paths.proofs.Steps.{AreRight}
use Rattle.cert_paths.proofs.search.first_table.Given as goal

abbrev pub invariant-loop-place : goal.invariant-loop-place
invariant-loop-place g l =
    (length l.table.items ≡ l.place) × AreRight (LeadsWithin (g.G.Graph.issuing l.graph) 0) (λ n. n < 8) l.table.items l.place
