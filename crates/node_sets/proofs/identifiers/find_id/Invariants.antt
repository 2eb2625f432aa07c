use Rattle.std.proofs.Common.{◌≡◌, [], length}
use Rattle.std.specs.Str.{chars}
use Rattle.document_model.specs.NodeSets.{Missing, identified}
use Rattle.doc_spans.specs.Below.{nodes_from}
use Rattle.doc_spans.specs.Rest.{rest}
use Rattle.doc_spans.specs.Seen.{NameBelow, document_in}
use Rattle.node_sets.specs.Answers.{answer_in, HasAnswer, with_more}
use Rattle.node_sets.proofs.identifiers.find_id.Given as goal

-- the answer is that with the nodes that were passed
abbrev pub invariant-loop-node : goal.invariant-loop-node
invariant-loop-node l =
    (goal.iterator-loop-node).can_next l.node-iterator × (goal.iterator-loop-node).is_finite l.node-iterator
    × NameBelow l.doc [] (length l.yielded) (rest l.node-iterator)
    × HasAnswer l.doc l.answer
    × (with_more (identified (chars l.value) [] (length l.yielded) (nodes_from (length l.yielded) (document_in l.doc))) (answer_in l.doc l.answer)
    ≡ with_more (identified (chars l.value) [] 0 (document_in l.doc)) Missing)
