use Rattle.std.proofs.Common.{◌≡◌}
use Rattle.std.specs.Prelude.{List}
use Rattle.std.specs.Prelude.{filter, not}
use Rattle.signature_model.specs.Spots.{Spot, elements_in, paths}
use Rattle.signature_model.specs.Shape.{is_in_stamp}
use Rattle.signature_elements.specs.Standing.{spot_of}
use Rattle.doc_spans.specs.Seen.{document_in}
use Rattle.signature_elements.specs.ElementsLeft.{elements_doc, elements_left}
use Rattle.signature_parts.proofs.Adding.{Adding}
use Rattle.signature_parts.proofs.Spread.{one_each}
use Rattle.inner_lines.proofs.stamp.add_others.Given as goal

-- what is left comes to what all comes to
abbrev pub invariant-loop-child : goal.invariant-loop-child
invariant-loop-child l =
    (goal.iterator-loop-child).can_next l.child-iterator × (goal.iterator-loop-child).is_finite l.child-iterator
    × (elements_doc l.child-iterator ≡ l.doc)
    × Adding l.doc (one_each (λ (spots : List Spot). paths (filter (λ child. not (is_in_stamp child)) spots)) (elements_left l.child-iterator)) (one_each (λ (spots : List Spot). paths (filter (λ child. not (is_in_stamp child)) spots)) (elements_in (document_in l.doc) (spot_of l.doc l.fn.stamp))) l.fn.place l.place
