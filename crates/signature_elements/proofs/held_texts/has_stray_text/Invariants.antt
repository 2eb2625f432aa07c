use Rattle.std.proofs.Common.{◌≡◌, length}
use Rattle.doc_spans.specs.Rest.{rest}
use Rattle.doc_spans.specs.Seen.{NameBelow, path_in}
use Rattle.signature_elements.proofs.Texted.{stray_left}
use Rattle.signature_elements.proofs.held_texts.has_stray_text.Given as goal

abbrev pub invariant-loop-child : goal.invariant-loop-child
invariant-loop-child l =
    (goal.iterator-loop-child).can_next l.child-iterator × (goal.iterator-loop-child).is_finite l.child-iterator
    × NameBelow l.doc (path_in l.doc l.fn.node) (length l.yielded) (rest l.child-iterator)
    × (stray_left l.doc l.fn.node (length l.yielded) ≡ stray_left l.doc l.fn.node 0)
