use Rattle.std.proofs.Common.{◌≡◌, ◌++◌, length}
use Rattle.doc_spans.specs.Rest.{rest}
use Rattle.doc_spans.specs.Seen.{NameBelow, path_in}
use Rattle.doc_spans.specs.Sizes.{size_in}
use Rattle.canon_tags.specs.Around.{around_in}
use Rattle.canon_forms.specs.Walks.{doc_of}
use Rattle.canon_forms.proofs.ChildNodes.{left_in}
use Rattle.canon_forms.proofs.nodes.+put_node.Given as goal

abbrev pub decreases-put_node : goal.decreases-put_node
decreases-put_node l = size_in (doc_of l.walk.now) l.node

abbrev pub invariant-loop-child : goal.invariant-loop-child
invariant-loop-child l =
    (goal.iterator-loop-child).can_next l.child-iterator × (goal.iterator-loop-child).is_finite l.child-iterator
    × NameBelow (doc_of l.walk) (path_in (doc_of l.walk) l.fn.node) (length l.yielded) (rest l.child-iterator)
    × (around_in l.around ≡ around_in l.initial.around)
    × (l.out ++ left_in l.walk (around_in l.initial.around) (path_in (doc_of l.walk) l.fn.node) (length l.yielded) ≡ l.initial.out ++ left_in l.walk (around_in l.initial.around) (path_in (doc_of l.walk) l.fn.node) 0)
