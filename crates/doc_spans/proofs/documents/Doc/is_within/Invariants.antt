use Rattle.std.proofs.Common.{◌≡◌, length}
use Rattle.document_model.specs.NodeSets.{is_within}
use Rattle.doc_spans.specs.Seen.{Has, path_in}
use Rattle.doc_spans.proofs.documents.Doc.is_within.Given as goal

-- the node that was reached is below the top one exactly where the first one is
abbrev pub invariant-outward : goal.invariant-outward
invariant-outward l = Has l.self l.at × (is_within (path_in l.self l.top) (path_in l.self l.fn.node) ≡ is_within (path_in l.self l.top) (path_in l.self l.at))

abbrev pub decreases-outward : goal.decreases-outward
decreases-outward l = length (path_in l.self l.at)
