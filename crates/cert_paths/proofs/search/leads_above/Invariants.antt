use Rattle.std.proofs.Common.{ℕ, ◌<◌, IsTrue}
use Rattle.cert_paths.specs.Numbered.{next_count, LeadsWithin}
use Rattle.cert_paths.proofs.search.leads_above.Given as goal

abbrev pub invariant-loop-issuer : goal.invariant-loop-issuer
invariant-loop-issuer g l =
    let issuing = g.G.Graph.issuing l.graph in
    (i : ℕ) → i < l.issuer → IsTrue (issuing.linked l.counted l.certificate i) → LeadsWithin issuing l.steps (next_count issuing l.counted i) i → ⊥
