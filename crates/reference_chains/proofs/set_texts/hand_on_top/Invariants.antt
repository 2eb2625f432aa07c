use Rattle.std.proofs.Common.{◌≡◌, [], length}
use Rattle.doc_spans.specs.Rest.{rest}
use Rattle.doc_spans.specs.Seen.{NameBelow}
use Rattle.node_sets.specs.Sets.{set_in, doc_in}
use Rattle.reference_chains.proofs.HeldTexts.{left}
use Rattle.reference_chains.proofs.set_texts.hand_on_top.Given as goal

abbrev pub invariant-loop-node : goal.invariant-loop-node
invariant-loop-node g l =
    (goal.iterator-loop-node g).can_next l.node-iterator × (goal.iterator-loop-node g).is_finite l.node-iterator
    × NameBelow (doc_in l.set) [] (length l.yielded) (rest l.node-iterator)
    × (g.T.TakesText.after l.taker (left (set_in l.set) (doc_in l.set) [] (length l.yielded)) ≡ g.T.TakesText.after l.initial.taker (left (set_in l.set) (doc_in l.set) [] 0))
