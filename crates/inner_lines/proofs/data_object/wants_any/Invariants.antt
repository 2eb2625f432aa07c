use Rattle.std.proofs.Common.{◌≡◌}
use Rattle.doc_spans.specs.Seen.{document_in}
use Rattle.signature_elements.specs.Standing.{spot_of}
use Rattle.signature_model.specs.Parts.{references}
use Rattle.inner_lines.specs.LineParts.{wanting}
use Rattle.signature_parts.specs.ListsLeft.{named_doc, named_left}
use Rattle.inner_lines.proofs.data_object.wants_any.Given as goal

-- those that were passed want none
abbrev pub invariant-loop-reference : goal.invariant-loop-reference
invariant-loop-reference l =
    (goal.iterator-loop-reference).can_next l.reference-iterator × (goal.iterator-loop-reference).is_finite l.reference-iterator
    × (named_doc l.reference-iterator ≡ l.doc)
    × (wanting (document_in l.doc) (spot_of l.doc l.fn.objects.signature) (named_left l.reference-iterator)
    ≡ wanting (document_in l.doc) (spot_of l.doc l.fn.objects.signature) (references (document_in l.doc) (spot_of l.doc l.fn.objects.signature)))
