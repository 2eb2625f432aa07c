use Rattle.std.proofs.Common.{◌≡◌}
use Rattle.std.specs.Prelude.{flat_map}
use Rattle.signature_model.specs.Shape.{reference_line, reference_line_of}
use Rattle.doc_spans.specs.Seen.{document_in}
use Rattle.signature_elements.specs.Standing.{spot_of}
use Rattle.signature_parts.specs.ListsLeft.{named_doc, named_left}
use Rattle.signature_parts.proofs.Adding.{Adding}
use Rattle.outer_lines.proofs.reference.add_references.Given as goal

abbrev pub invariant-loop-reference : goal.invariant-loop-reference
invariant-loop-reference l =
    (goal.iterator-loop-reference).can_next l.reference-iterator × (goal.iterator-loop-reference).is_finite l.reference-iterator
    × (named_doc l.reference-iterator ≡ l.doc)
    × Adding l.doc (flat_map (reference_line_of (document_in l.doc)) (named_left l.reference-iterator)) (reference_line (document_in l.doc) (spot_of l.doc l.fn.signature)) l.fn.places l.places
