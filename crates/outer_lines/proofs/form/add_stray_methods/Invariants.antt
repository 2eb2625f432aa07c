use Rattle.std.proofs.Common.{◌≡◌}
use Rattle.std.specs.Prelude.{flat_map}
use Rattle.signature_model.specs.Holding.{with_stray_text}
use Rattle.signature_model.specs.Parts.{stamp_method}
use Rattle.signature_model.specs.Shape.{stamp_methods}
use Rattle.doc_spans.specs.Seen.{document_in}
use Rattle.signature_elements.specs.Standing.{spot_of}
use Rattle.signature_parts.specs.StampsLeft.{stamps_doc, stamps_left}
use Rattle.signature_parts.proofs.Adding.{Adding}
use Rattle.outer_lines.proofs.form.add_stray_methods.Given as goal

abbrev pub invariant-loop-stamp : goal.invariant-loop-stamp
invariant-loop-stamp l =
    (goal.iterator-loop-stamp).can_next l.stamp-iterator × (goal.iterator-loop-stamp).is_finite l.stamp-iterator
    × (stamps_doc l.stamp-iterator ≡ l.doc)
    × Adding l.doc (with_stray_text (document_in l.doc) (flat_map (stamp_method (document_in l.doc)) (stamps_left l.stamp-iterator))) (with_stray_text (document_in l.doc) (stamp_methods (document_in l.doc) (spot_of l.doc l.fn.signature))) l.fn.places l.places
