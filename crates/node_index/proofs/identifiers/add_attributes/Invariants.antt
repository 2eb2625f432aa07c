use Rattle.std.proofs.Common.{◌≡◌, ℕ, List}
use Rattle.std.specs.Str.{chars, IsUtf8}
use Rattle.document_model.specs.NodeSets.{once_each}
use Rattle.xml_items.specs.Attributes.{attributes_left}
use Rattle.doc_spans.specs.Seen.{path_in}
use Rattle.node_sets.specs.Answers.{answer_in, with_more}
use Rattle.node_index.specs.Identifiers.{IsWithin, named_by}
use Rattle.node_index.proofs.identifiers.add_attributes.Given as goal

-- what is named with the attributes that are left is what is named with all
abbrev pub invariant-attributes : goal.invariant-attributes
invariant-attributes l =
    IsWithin l.doc l.index
    × ((value : List ℕ) → IsUtf8 value → with_more (once_each (chars value) (path_in l.doc l.node) (attributes_left l.rest)) (answer_in l.doc (named_by l.index value))
    ≡ with_more (once_each (chars value) (path_in l.doc l.node) (attributes_left l.fn.attributes)) (answer_in l.doc (named_by l.fn.index value)))

abbrev pub decreases-attributes : goal.decreases-attributes
decreases-attributes l = l.rest.left
