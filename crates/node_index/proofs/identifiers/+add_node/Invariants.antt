use Rattle.std.proofs.Common.{◌≡◌, ℕ, List, length}
use Rattle.std.specs.Str.{chars, IsUtf8}
use Rattle.document_model.specs.NodeSets.{identified}
use Rattle.doc_spans.specs.Below.{nodes_from}
use Rattle.doc_spans.specs.Rest.{rest}
use Rattle.doc_spans.specs.Seen.{NameBelow, path_in, nodes_in}
use Rattle.doc_spans.specs.Sizes.{size_in}
use Rattle.node_sets.specs.Answers.{answer_in, with_more}
use Rattle.node_index.specs.Identifiers.{IsWithin, named_by}
use Rattle.node_index.proofs.identifiers.+add_node.Given as goal

abbrev pub decreases-add_node : goal.decreases-add_node
decreases-add_node l = size_in l.doc l.node

-- what is named with the children that are left is what is named with all
abbrev pub invariant-loop-child : goal.invariant-loop-child
invariant-loop-child l =
    (goal.iterator-loop-child).can_next l.child-iterator × (goal.iterator-loop-child).is_finite l.child-iterator
    × NameBelow l.doc (path_in l.doc l.fn.node) (length l.yielded) (rest l.child-iterator)
    × IsWithin l.doc l.index
    × ((value : List ℕ) → IsUtf8 value
    → with_more (identified (chars value) (path_in l.doc l.fn.node) (length l.yielded) (nodes_from (length l.yielded) (nodes_in l.doc l.fn.node))) (answer_in l.doc (named_by l.index value))
    ≡ with_more (identified (chars value) (path_in l.doc l.fn.node) 0 (nodes_in l.doc l.fn.node)) (answer_in l.doc (named_by l.initial.index value)))
