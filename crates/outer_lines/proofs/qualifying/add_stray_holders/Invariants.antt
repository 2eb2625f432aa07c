use Rattle.std.proofs.Common.{◌≡◌}
use Rattle.signature_model.specs.Holding.{with_stray_text}
use Rattle.signature_model.specs.Parts.{qualifying_objects}
use Rattle.doc_spans.specs.Seen.{document_in}
use Rattle.signature_elements.specs.Standing.{spot_of}
use Rattle.signature_parts.specs.QualifyingLeft.{qualifying_doc, qualifying_left}
use Rattle.signature_parts.proofs.Adding.{Adding}
use Rattle.outer_lines.proofs.qualifying.add_stray_holders.Given as goal

abbrev pub invariant-loop-object : goal.invariant-loop-object
invariant-loop-object l =
    (goal.iterator-loop-object).can_next l.object-iterator × (goal.iterator-loop-object).is_finite l.object-iterator
    × (qualifying_doc l.object-iterator ≡ l.doc)
    × Adding l.doc (with_stray_text (document_in l.doc) (qualifying_left l.object-iterator)) (with_stray_text (document_in l.doc) (qualifying_objects (document_in l.doc) (spot_of l.doc l.fn.signature))) l.fn.places l.places
