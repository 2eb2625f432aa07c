use Rattle.std.proofs.Common.{◌≡◌}
use Rattle.inner_lines.specs.LineParts.{material_faults}
use Rattle.signature_model.specs.Parts.{properties}
use Rattle.signature_elements.specs.Standing.{spot_of}
use Rattle.doc_spans.specs.Seen.{document_in}
use Rattle.signature_parts.specs.ListsLeft.{all_doc, all_left}
use Rattle.signature_parts.proofs.Adding.{Adding}
use Rattle.signature_parts.proofs.Spread.{one_each}
use Rattle.inner_lines.proofs.values.add_properties.Given as goal

-- what is left comes to what all comes to
abbrev pub invariant-loop-property : goal.invariant-loop-property
invariant-loop-property l =
    (goal.iterator-loop-property).can_next l.property-iterator × (goal.iterator-loop-property).is_finite l.property-iterator
    × (all_doc l.property-iterator ≡ l.doc)
    × Adding l.doc (one_each (material_faults (document_in l.doc)) (all_left l.property-iterator)) (one_each (material_faults (document_in l.doc)) (properties (document_in l.doc) (spot_of l.doc l.fn.signature))) l.fn.place l.place
