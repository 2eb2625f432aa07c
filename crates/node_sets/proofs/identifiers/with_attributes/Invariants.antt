use Rattle.std.proofs.Common.{◌≡◌}
use Rattle.std.specs.Str.{chars}
use Rattle.document_model.specs.NodeSets.{once_each}
use Rattle.xml_items.specs.Attributes.{attributes_left}
use Rattle.doc_spans.specs.Seen.{path_in}
use Rattle.node_sets.specs.Answers.{answer_in, HasAnswer, with_more}
use Rattle.node_sets.proofs.identifiers.with_attributes.Given as goal

-- the answer is that with the attributes that were passed
abbrev pub invariant-attributes : goal.invariant-attributes
invariant-attributes l =
    HasAnswer l.doc l.answer
    × (with_more (once_each (chars l.value) (path_in l.doc l.node) (attributes_left l.rest)) (answer_in l.doc l.answer)
    ≡ with_more (once_each (chars l.value) (path_in l.doc l.node) (attributes_left l.fn.attributes)) (answer_in l.doc l.fn.found))

abbrev pub decreases-attributes : goal.decreases-attributes
decreases-attributes l = l.rest.left
