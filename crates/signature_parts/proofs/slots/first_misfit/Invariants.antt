use Rattle.std.proofs.Common.{◌≡◌}
use Rattle.std.specs.Prelude.{map}
use Rattle.doc_spans.specs.Seen.{document_in}
use Rattle.signature_elements.specs.ElementsLeft.{elements_doc, elements_left}
use Rattle.signature_elements.specs.Standing.{spot_of}
use Rattle.signature_model.specs.Holding.{first_misfit}
use Rattle.signature_model.specs.Spots.{elements_in}
use Rattle.signature_parts.specs.Slots.{slot_in, slots_left}
use Rattle.signature_parts.proofs.slots.first_misfit.Given as goal

-- the children that were passed were taken
abbrev pub invariant-loop-child : goal.invariant-loop-child
invariant-loop-child l =
    (goal.iterator-loop-child).can_next l.child-iterator × (goal.iterator-loop-child).is_finite l.child-iterator
    × (elements_doc l.child-iterator ≡ l.doc)
    × (first_misfit (slots_left l.order) (elements_left l.child-iterator)
    ≡ first_misfit (map slot_in l.fn.slots) (elements_in (document_in l.doc) (spot_of l.doc l.fn.holder)))
