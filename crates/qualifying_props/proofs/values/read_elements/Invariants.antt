use Rattle.std.proofs.Common.{◌≡◌}
use Rattle.signature_elements.specs.NamedLeft.{called_doc, called_left}
use Rattle.signature_model.specs.Parts.{as_kind}
use Rattle.qualifying_props.specs.Data.{datum_kind}
use Rattle.qualifying_props.proofs.Reading.{Reading}
use Rattle.qualifying_props.proofs.values.read_elements.Given as goal

abbrev pub invariant-loop-element : goal.invariant-loop-element
invariant-loop-element l =
    (goal.iterator-loop-element).can_next l.element-iterator × (goal.iterator-loop-element).is_finite l.element-iterator
    × (called_doc l.element-iterator ≡ l.doc)
    × Reading l.doc (as_kind (datum_kind l.kind) (called_left l.element-iterator)) (as_kind (datum_kind l.kind) (called_left l.fn.elements))
    l.fn.octets.items l.octets.items l.fn.bad l.bad
