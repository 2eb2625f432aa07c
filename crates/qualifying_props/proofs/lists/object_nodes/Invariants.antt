use Rattle.std.proofs.Common.{◌≡◌}
use Rattle.doc_spans.specs.Seen.{document_in}
use Rattle.signature_elements.specs.NamedLeft.{called_doc, called_left}
use Rattle.signature_elements.specs.Standing.{spot_of}
use Rattle.signature_model.specs.Parts.{other_objects}
use Rattle.qualifying_props.proofs.Listing.{Listing, others_in}
use Rattle.qualifying_props.proofs.lists.object_nodes.Given as goal

abbrev pub invariant-loop-object : goal.invariant-loop-object
invariant-loop-object l =
    (goal.iterator-loop-object).can_next l.object-iterator × (goal.iterator-loop-object).is_finite l.object-iterator
    × (called_doc l.object-iterator ≡ l.doc)
    × Listing l.doc (others_in (document_in l.doc) (called_left l.object-iterator))
    (other_objects (document_in l.doc) (spot_of l.doc l.fn.signature)) l.nodes.items
