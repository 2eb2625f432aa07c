use Rattle.std.proofs.Common.{◌≡◌}
use Rattle.std.specs.Prelude.{List}
use Rattle.std.specs.Prelude.{filter}
use Rattle.signature_model.specs.Spots.{Spot, elements_in, paths}
use Rattle.signature_model.specs.Shape.{is_reaching_out}
use Rattle.signature_elements.specs.Standing.{spot_of}
use Rattle.doc_spans.specs.Seen.{document_in}
use Rattle.signature_elements.specs.ElementsLeft.{elements_doc, elements_left}
use Rattle.signature_parts.proofs.Adding.{Adding}
use Rattle.signature_parts.proofs.Spread.{one_each}
use Rattle.inner_lines.proofs.covered.add_reaching_out_in.Given as goal

-- what is left comes to what all comes to
abbrev pub invariant-loop-transform : goal.invariant-loop-transform
invariant-loop-transform l =
    (goal.iterator-loop-transform).can_next l.transform-iterator × (goal.iterator-loop-transform).is_finite l.transform-iterator
    × (elements_doc l.transform-iterator ≡ l.doc)
    × Adding l.doc (one_each (λ (spots : List Spot). paths (filter is_reaching_out spots)) (elements_left l.transform-iterator)) (one_each (λ (spots : List Spot). paths (filter is_reaching_out spots)) (elements_in (document_in l.doc) (spot_of l.doc l.fn.list))) l.fn.place l.place
