use Rattle.std.proofs.Common.{◌≡◌}
use Rattle.std.specs.Prelude.{List}
use Rattle.std.specs.Prelude.{codes}
use Rattle.signature_model.specs.Holding.{without_value}
use Rattle.signature_model.specs.Spots.{Spot, called, called_in}
use Rattle.signature_model.specs.Vocabulary.{xades}
use Rattle.signature_elements.specs.Standing.{spot_of}
use Rattle.doc_spans.specs.Seen.{document_in}
use Rattle.signature_elements.specs.NamedLeft.{called_doc, called_left}
use Rattle.signature_parts.proofs.Adding.{Adding}
use Rattle.signature_parts.proofs.Spread.{one_each}
use Rattle.inner_lines.proofs.values.add_revocation_lists.Given as goal

-- what is left comes to what all comes to
abbrev pub invariant-loop-list : goal.invariant-loop-list
invariant-loop-list l =
    (goal.iterator-loop-list).can_next l.list-iterator × (goal.iterator-loop-list).is_finite l.list-iterator
    × (called_doc l.list-iterator ≡ l.doc)
    × Adding l.doc (one_each (λ (spots : List Spot). without_value (document_in l.doc) (called_in (document_in l.doc) (xades (codes "EncapsulatedCRLValue")) spots)) (called_left l.list-iterator)) (one_each (λ (spots : List Spot). without_value (document_in l.doc) (called_in (document_in l.doc) (xades (codes "EncapsulatedCRLValue")) spots)) (called (document_in l.doc) (xades (codes "CRLValues")) (spot_of l.doc l.fn.holder))) l.fn.place l.place
