use Rattle.std.proofs.Common.{ℕ, ◌<◌, ◌≤◌, IsTrue}
use Rattle.cert_paths.proofs.search.is_rooted.Given as goal

abbrev pub invariant-loop-anchor : goal.invariant-loop-anchor
invariant-loop-anchor g l =
    let issuing = g.G.Graph.issuing l.graph in
    (i : ℕ) → issuing.size ≤ i → i < l.anchor → IsTrue (issuing.linked l.counted l.certificate i) → ⊥
