use Rattle.std.proofs.Common.{◌≡◌}
use Rattle.inner_lines.specs.LineParts.{key_data_faults}
use Rattle.signature_model.specs.Parts.{key_data}
use Rattle.signature_elements.specs.Standing.{spot_of}
use Rattle.doc_spans.specs.Seen.{document_in}
use Rattle.signature_parts.specs.ListsLeft.{named_doc, named_left}
use Rattle.signature_parts.proofs.Adding.{Adding}
use Rattle.signature_parts.proofs.Spread.{one_each}
use Rattle.inner_lines.proofs.key.add_data.Given as goal

-- what is left comes to what all comes to
abbrev pub invariant-loop-holder : goal.invariant-loop-holder
invariant-loop-holder l =
    (goal.iterator-loop-holder).can_next l.holder-iterator × (goal.iterator-loop-holder).is_finite l.holder-iterator
    × (named_doc l.holder-iterator ≡ l.doc)
    × Adding l.doc (one_each (key_data_faults (document_in l.doc)) (named_left l.holder-iterator)) (one_each (key_data_faults (document_in l.doc)) (key_data (document_in l.doc) (spot_of l.doc l.fn.signature))) l.fn.place l.place
