use Rattle.std.proofs.Common.{◌≡◌}
use Rattle.std.specs.Prelude.{List}
use Rattle.std.specs.Prelude.{filter, flat_map}
use Rattle.signature_model.specs.Spots.{Spot, elements_in, paths}
use Rattle.signature_model.specs.Shape.{is_reaching_out}
use Rattle.signature_model.specs.Parts.{transform_lists}
use Rattle.signature_elements.specs.Standing.{spot_of}
use Rattle.doc_spans.specs.Seen.{document_in}
use Rattle.signature_elements.specs.NamedLeft.{called_doc, called_left}
use Rattle.signature_parts.proofs.Adding.{Adding}
use Rattle.signature_parts.proofs.Spread.{one_each}
use Rattle.inner_lines.proofs.covered.add_reaching_out.Given as goal

-- what is left comes to what all comes to
abbrev pub invariant-loop-list : goal.invariant-loop-list
invariant-loop-list l =
    (goal.iterator-loop-list).can_next l.list-iterator × (goal.iterator-loop-list).is_finite l.list-iterator
    × (called_doc l.list-iterator ≡ l.doc)
    × Adding l.doc (one_each (λ (spots : List Spot). paths (filter is_reaching_out (flat_map (elements_in (document_in l.doc)) spots))) (called_left l.list-iterator)) (one_each (λ (spots : List Spot). paths (filter is_reaching_out (flat_map (elements_in (document_in l.doc)) spots))) (transform_lists (document_in l.doc) (spot_of l.doc l.fn.reference))) l.fn.place l.place
