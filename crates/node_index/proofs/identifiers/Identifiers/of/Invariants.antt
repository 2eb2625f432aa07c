use Rattle.std.proofs.Common.{◌≡◌, ℕ, List, [], length}
use Rattle.std.specs.Str.{chars, IsUtf8}
use Rattle.document_model.specs.NodeSets.{Missing, identified}
use Rattle.doc_spans.specs.Below.{nodes_from}
use Rattle.doc_spans.specs.Rest.{rest}
use Rattle.doc_spans.specs.Seen.{NameBelow, document_in}
use Rattle.node_sets.specs.Answers.{answer_in, with_more}
use Rattle.node_index.specs.Identifiers.{IsWithin, named_by}
use Rattle.node_index.proofs.identifiers.Identifiers.of.Given as goal

-- what is named with the nodes that are left is what is named with all
abbrev pub invariant-loop-node : goal.invariant-loop-node
invariant-loop-node l =
    (goal.iterator-loop-node).can_next l.node-iterator × (goal.iterator-loop-node).is_finite l.node-iterator
    × NameBelow l.doc [] (length l.yielded) (rest l.node-iterator)
    × IsWithin l.doc l.index
    × ((value : List ℕ) → IsUtf8 value → with_more (identified (chars value) [] (length l.yielded) (nodes_from (length l.yielded) (document_in l.doc))) (answer_in l.doc (named_by l.index value))
    ≡ with_more (identified (chars value) [] 0 (document_in l.doc)) Missing)
