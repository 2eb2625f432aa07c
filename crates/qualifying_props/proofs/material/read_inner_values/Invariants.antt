use Rattle.std.proofs.Common.{◌≡◌}
use Rattle.std.specs.Prelude.{filter, flat_map}
use Rattle.doc_spans.specs.Seen.{document_in}
use Rattle.signature_elements.specs.ElementsLeft.{elements_doc, elements_left}
use Rattle.signature_elements.specs.Standing.{spot_of}
use Rattle.signature_model.specs.Parts.{data_of_values, is_values}
use Rattle.qualifying_props.specs.Data.{inner_data}
use Rattle.qualifying_props.proofs.Reading.{Reading}
use Rattle.qualifying_props.proofs.material.read_inner_values.Given as goal

abbrev pub invariant-loop-values : goal.invariant-loop-values
invariant-loop-values l =
    (goal.iterator-loop-values).can_next l.values-iterator × (goal.iterator-loop-values).is_finite l.values-iterator
    × (elements_doc l.values-iterator ≡ l.doc)
    × Reading l.doc (flat_map (data_of_values (document_in l.doc)) (filter is_values (elements_left l.values-iterator)))
    (inner_data (document_in l.doc) (spot_of l.doc l.fn.property)) l.fn.octets.items l.octets.items l.fn.bad l.bad
