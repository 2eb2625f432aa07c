use Rattle.std.proofs.Common.{◌≡◌}
use Rattle.inner_lines.specs.LineParts.{stamp_faults}
use Rattle.signature_model.specs.Parts.{stamps}
use Rattle.signature_elements.specs.Standing.{spot_of}
use Rattle.doc_spans.specs.Seen.{document_in}
use Rattle.signature_parts.specs.StampsLeft.{stamps_doc, stamps_left}
use Rattle.signature_parts.proofs.Adding.{Adding}
use Rattle.signature_parts.proofs.Spread.{one_each}
use Rattle.inner_lines.proofs.stamp.stamp_line.Given as goal

-- what is left comes to what all comes to
abbrev pub invariant-loop-stamp : goal.invariant-loop-stamp
invariant-loop-stamp l =
    (goal.iterator-loop-stamp).can_next l.stamp-iterator × (goal.iterator-loop-stamp).is_finite l.stamp-iterator
    × (stamps_doc l.stamp-iterator ≡ l.doc)
    × Adding l.doc (one_each (stamp_faults (document_in l.doc)) (stamps_left l.stamp-iterator)) (one_each (stamp_faults (document_in l.doc)) (stamps (document_in l.doc) (spot_of l.doc l.fn.signature))) l.initial.place l.place
