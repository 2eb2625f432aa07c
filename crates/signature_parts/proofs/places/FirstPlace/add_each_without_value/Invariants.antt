use Rattle.std.proofs.Common.{◌≡◌}
use Rattle.signature_model.specs.Holding.{without_value}
use Rattle.doc_spans.specs.Seen.{document_in}
use Rattle.signature_elements.specs.NamedLeft.{called_doc, called_left}
use Rattle.signature_parts.proofs.Adding.{Adding}
use Rattle.signature_parts.proofs.Spread.{one_each}
use Rattle.signature_parts.proofs.places.FirstPlace.add_each_without_value.Given as goal

-- what is left comes to what all comes to
abbrev pub invariant-loop-holder : goal.invariant-loop-holder
invariant-loop-holder l =
    (goal.iterator-loop-holder).can_next l.holder-iterator × (goal.iterator-loop-holder).is_finite l.holder-iterator
    × (called_doc l.holder-iterator ≡ l.doc)
    × Adding l.doc (one_each (without_value (document_in l.doc)) (called_left l.holder-iterator)) (one_each (without_value (document_in l.doc)) (called_left l.fn.holders)) l.fn.self l.self
