use Rattle.std.proofs.Common.{◌≡◌, length}
use Rattle.doc_spans.specs.Rest.{rest}
use Rattle.doc_spans.specs.Seen.{NameBelow, path_in}
use Rattle.doc_spans.specs.Sizes.{size_in}
use Rattle.node_sets.specs.Sets.{set_in, doc_in}
use Rattle.reference_chains.proofs.HeldTexts.{left}
use Rattle.reference_chains.proofs.set_texts.+hand_on_node.Given as goal

abbrev pub decreases-hand_on_node : goal.decreases-hand_on_node
decreases-hand_on_node g l = size_in (doc_in l.set.now) l.node

-- the text so far and that of the children that are left are the whole text
abbrev pub invariant-loop-child : goal.invariant-loop-child
invariant-loop-child g l =
    (goal.iterator-loop-child g).can_next l.child-iterator × (goal.iterator-loop-child g).is_finite l.child-iterator
    × NameBelow (doc_in l.set) (path_in (doc_in l.set) l.fn.node) (length l.yielded) (rest l.child-iterator)
    × (g.T.TakesText.after l.taker (left (set_in l.set) (doc_in l.set) (path_in (doc_in l.set) l.fn.node) (length l.yielded))
    ≡ g.T.TakesText.after l.initial.taker (left (set_in l.set) (doc_in l.set) (path_in (doc_in l.set) l.fn.node) 0))
