use Rattle.std.proofs.Common.{◌≡◌, ◌+◌, ◌<◌, length}
use Rattle.cert_paths.specs.Numbered.{LeadsWithin}
use Rattle.cert_paths.proofs.Steps.{AreRight}
use Rattle.cert_paths.proofs.search.next_table.Given as goal

abbrev pub invariant-loop-place : goal.invariant-loop-place
invariant-loop-place g l =
    (length l.table.items ≡ l.place)
    × AreRight (LeadsWithin (g.G.Graph.issuing l.graph) (l.steps + 1)) (λ n. n + l.steps < 7) l.table.items l.place
