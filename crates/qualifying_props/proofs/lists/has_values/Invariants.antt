use Rattle.std.proofs.Common.{◌≡◌}
use Rattle.std.specs.List.{list_any}
use Rattle.doc_spans.specs.Seen.{document_in}
use Rattle.signature_elements.specs.Standing.{spot_of}
use Rattle.signature_model.specs.Parts.{has_values, is_values}
use Rattle.signature_parts.specs.ListsLeft.{all_doc, all_left}
use Rattle.qualifying_props.proofs.lists.has_values.Given as goal

-- those that were passed are no values
abbrev pub invariant-loop-property : goal.invariant-loop-property
invariant-loop-property l =
    (goal.iterator-loop-property).can_next l.property-iterator × (goal.iterator-loop-property).is_finite l.property-iterator
    × (all_doc l.property-iterator ≡ l.doc)
    × (list_any is_values (all_left l.property-iterator) ≡ has_values (document_in l.doc) (spot_of l.doc l.fn.signature))
