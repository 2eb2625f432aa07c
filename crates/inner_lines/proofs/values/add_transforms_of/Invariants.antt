use Rattle.std.proofs.Common.{◌≡◌}
use Rattle.inner_lines.specs.LineParts.{transforms_faults}
use Rattle.signature_model.specs.Parts.{transform_lists}
use Rattle.signature_elements.specs.Standing.{spot_of}
use Rattle.doc_spans.specs.Seen.{document_in}
use Rattle.signature_elements.specs.NamedLeft.{called_doc, called_left}
use Rattle.signature_parts.proofs.Adding.{Adding}
use Rattle.signature_parts.proofs.Spread.{one_each}
use Rattle.inner_lines.proofs.values.add_transforms_of.Given as goal

-- what is left comes to what all comes to
abbrev pub invariant-loop-list : goal.invariant-loop-list
invariant-loop-list l =
    (goal.iterator-loop-list).can_next l.list-iterator × (goal.iterator-loop-list).is_finite l.list-iterator
    × (called_doc l.list-iterator ≡ l.doc)
    × Adding l.doc (one_each (transforms_faults (document_in l.doc)) (called_left l.list-iterator)) (one_each (transforms_faults (document_in l.doc)) (transform_lists (document_in l.doc) (spot_of l.doc l.fn.reference))) l.fn.place l.place
