use Rattle.std.proofs.Common.{◌≡◌}
use Rattle.std.specs.Prelude.{map}
use Rattle.doc_spans.specs.Seen.{document_in}
use Rattle.signature_elements.specs.Standing.{spot_of}
use Rattle.signature_model.specs.Parts.{properties}
use Rattle.signature_parts.specs.ListsLeft.{all_doc, all_left}
use Rattle.qualifying_props.specs.Properties.{shown_property}
use Rattle.qualifying_props.proofs.Gathering.{Gathering}
use Rattle.qualifying_props.proofs.property.read_properties.Given as goal

abbrev pub invariant-loop-node : goal.invariant-loop-node
invariant-loop-node l =
    (goal.iterator-loop-node).can_next l.node-iterator × (goal.iterator-loop-node).is_finite l.node-iterator
    × (all_doc l.node-iterator ≡ l.doc)
    × Gathering l.doc (all_left l.node-iterator) (properties (document_in l.doc) (spot_of l.doc l.fn.signature)) (map shown_property l.found.items) l.fn.bad l.bad
