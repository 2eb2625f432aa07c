use Rattle.std.proofs.Common.{◌≡◌, [], ◌++◌, length, false}
use Rattle.document_model.specs.Canonical.{at_apex}
use Rattle.doc_spans.specs.Rest.{rest}
use Rattle.doc_spans.specs.Seen.{NameBelow}
use Rattle.canon_tags.specs.Around.{around_in}
use Rattle.canon_forms.specs.Walks.{doc_of}
use Rattle.canon_forms.proofs.ChildNodes.{lines_left}
use Rattle.canon_forms.proofs.lines.put_lines.Given as goal

abbrev pub invariant-loop-node : goal.invariant-loop-node
invariant-loop-node l =
    (goal.iterator-loop-node).can_next l.node-iterator × (goal.iterator-loop-node).is_finite l.node-iterator
    × NameBelow (doc_of l.walk) [] (length l.yielded) (rest l.node-iterator)
    × (around_in l.around ≡ at_apex [])
    × (l.out ++ lines_left l.walk l.behind (length l.yielded) ≡ l.initial.out ++ lines_left l.walk false 0)
