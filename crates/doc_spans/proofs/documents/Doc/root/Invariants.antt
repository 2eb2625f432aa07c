use Rattle.std.proofs.Common.{[], length}
use Rattle.doc_spans.specs.Rest.{rest}
use Rattle.doc_spans.specs.Roots.{NoElementBefore}
use Rattle.doc_spans.specs.Seen.{NameBelow, document_in}
use Rattle.doc_spans.proofs.documents.Doc.root.Given as goal

abbrev pub invariant-loop-node : goal.invariant-loop-node
invariant-loop-node l =
    (goal.iterator-loop-node).can_next l.node-iterator × (goal.iterator-loop-node).is_finite l.node-iterator
    × NameBelow l.self [] (length l.yielded) (rest l.node-iterator)
    × NoElementBefore (length l.yielded) (document_in l.self)
