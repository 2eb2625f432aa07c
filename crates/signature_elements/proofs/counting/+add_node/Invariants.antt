use Rattle.std.proofs.Common.{◌≡◌, length}
use Rattle.doc_spans.specs.Rest.{rest}
use Rattle.doc_spans.specs.Seen.{NameBelow, path_in}
use Rattle.doc_spans.specs.Sizes.{size_in}
use Rattle.signature_elements.specs.Counts.{AreThere, tally_in, with_more}
use Rattle.signature_elements.proofs.Tallies.{signatures_left}
use Rattle.signature_elements.proofs.counting.+add_node.Given as goal

abbrev pub decreases-add_node : goal.decreases-add_node
decreases-add_node l = size_in l.doc l.node

-- the count is that with the children that were passed
abbrev pub invariant-loop-child : goal.invariant-loop-child
invariant-loop-child l =
    (goal.iterator-loop-child).can_next l.child-iterator × (goal.iterator-loop-child).is_finite l.child-iterator
    × NameBelow l.doc (path_in l.doc l.fn.node) (length l.yielded) (rest l.child-iterator)
    × AreThere l.doc l.found
    × (with_more (signatures_left l.doc (path_in l.doc l.fn.node) (length l.yielded)) (tally_in l.doc l.found)
    ≡ with_more (signatures_left l.doc (path_in l.doc l.fn.node) 0) (tally_in l.doc l.initial.found))
