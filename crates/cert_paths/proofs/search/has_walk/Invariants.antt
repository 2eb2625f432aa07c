use Rattle.cert_paths.specs.Numbered.{IsTable}
use Rattle.cert_paths.proofs.search.has_walk.Given as goal

abbrev pub invariant-loop-steps : goal.invariant-loop-steps
invariant-loop-steps g l = IsTable (g.G.Graph.issuing l.graph) l.steps l.table.items
