use Rattle.std.proofs.Common.{◌≡◌}
use Rattle.doc_spans.specs.Seen.{document_in}
use Rattle.signature_elements.specs.Standing.{spot_of}
use Rattle.signature_model.specs.Parts.{references}
use Rattle.signature_parts.specs.ListsLeft.{named_doc, named_left}
use Rattle.qualifying_props.proofs.Listing.{Listing}
use Rattle.qualifying_props.proofs.lists.reference_nodes.Given as goal

abbrev pub invariant-loop-reference : goal.invariant-loop-reference
invariant-loop-reference l =
    (goal.iterator-loop-reference).can_next l.reference-iterator × (goal.iterator-loop-reference).is_finite l.reference-iterator
    × (named_doc l.reference-iterator ≡ l.doc)
    × Listing l.doc (named_left l.reference-iterator) (references (document_in l.doc) (spot_of l.doc l.fn.signature)) l.nodes.items
