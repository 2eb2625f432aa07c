use Rattle.std.proofs.Common.{◌≡◌, [], length}
use Rattle.doc_spans.specs.Rest.{rest}
use Rattle.doc_spans.specs.Seen.{NameBelow}
use Rattle.signature_elements.specs.Counts.{Nothing, AreThere, tally_in, with_more}
use Rattle.signature_elements.proofs.Tallies.{signatures_left}
use Rattle.signature_elements.proofs.counting.counted.Given as goal

-- the count is that of the nodes that were passed
abbrev pub invariant-loop-node : goal.invariant-loop-node
invariant-loop-node l =
    (goal.iterator-loop-node).can_next l.node-iterator × (goal.iterator-loop-node).is_finite l.node-iterator
    × NameBelow l.doc [] (length l.yielded) (rest l.node-iterator)
    × AreThere l.doc l.found
    × (with_more (signatures_left l.doc [] (length l.yielded)) (tally_in l.doc l.found) ≡ with_more (signatures_left l.doc [] 0) Nothing)
