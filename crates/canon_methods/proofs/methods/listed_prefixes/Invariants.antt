use Rattle.std.proofs.Common.{◌≡◌, length}
use Rattle.doc_spans.specs.Rest.{rest}
use Rattle.doc_spans.specs.Seen.{NameBelow, path_in}
use Rattle.canon_methods.proofs.Named.{among_left}
use Rattle.canon_methods.proofs.methods.listed_prefixes.Given as goal

abbrev pub invariant-loop-child : goal.invariant-loop-child
invariant-loop-child l =
    (goal.iterator-loop-child).can_next l.child-iterator × (goal.iterator-loop-child).is_finite l.child-iterator
    × NameBelow l.doc (path_in l.doc l.fn.method) (length l.yielded) (rest l.child-iterator)
    × (among_left l.doc l.fn.method (length l.yielded) ≡ among_left l.doc l.fn.method 0)
