use Rattle.std.proofs.Common.{◌≡◌}
use Rattle.inner_lines.specs.LineParts.{wanting_faults}
use Rattle.signature_model.specs.Parts.{references}
use Rattle.signature_elements.specs.Standing.{spot_of}
use Rattle.doc_spans.specs.Seen.{document_in}
use Rattle.signature_parts.specs.ListsLeft.{named_doc, named_left}
use Rattle.signature_parts.proofs.Adding.{Adding}
use Rattle.signature_parts.proofs.Spread.{one_each}
use Rattle.inner_lines.proofs.data_object.add_references.Given as goal

-- what is left comes to what all comes to
abbrev pub invariant-loop-reference : goal.invariant-loop-reference
invariant-loop-reference l =
    (goal.iterator-loop-reference).can_next l.reference-iterator × (goal.iterator-loop-reference).is_finite l.reference-iterator
    × (named_doc l.reference-iterator ≡ l.doc)
    × Adding l.doc (one_each (wanting_faults (document_in l.doc) (spot_of l.doc l.fn.objects.signature)) (named_left l.reference-iterator)) (one_each (wanting_faults (document_in l.doc) (spot_of l.doc l.fn.objects.signature)) (references (document_in l.doc) (spot_of l.doc l.fn.objects.signature))) l.fn.place l.place
