use Rattle.std.proofs.Common.{◌≡◌}
use Rattle.signature_elements.specs.NamedLeft.{called_doc, called_left}
use Rattle.signature_model.specs.Spots.{paths}
use Rattle.signature_parts.proofs.Adding.{Adding}
use Rattle.signature_parts.proofs.places.FirstPlace.add_all.Given as goal

abbrev pub invariant-loop-element : goal.invariant-loop-element
invariant-loop-element l =
    (goal.iterator-loop-element).can_next l.element-iterator × (goal.iterator-loop-element).is_finite l.element-iterator
    × (called_doc l.element-iterator ≡ l.doc)
    × Adding l.doc (paths (called_left l.element-iterator)) (paths (called_left l.fn.elements)) l.fn.self l.self
