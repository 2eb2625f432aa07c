use Rattle.std.proofs.Common.{◌≡◌, codes}
use Rattle.doc_spans.specs.Seen.{document_in}
use Rattle.signature_elements.specs.NamedLeft.{called_doc, called_left}
use Rattle.signature_elements.specs.Standing.{spot_of}
use Rattle.signature_model.specs.Parts.{as_kind, RevocationList}
use Rattle.signature_model.specs.Spots.{called_in}
use Rattle.signature_model.specs.Vocabulary.{xades}
use Rattle.qualifying_props.specs.Data.{lists_of}
use Rattle.qualifying_props.proofs.Reading.{Reading}
use Rattle.qualifying_props.proofs.material.read_lists.Given as goal

abbrev pub invariant-loop-holder : goal.invariant-loop-holder
invariant-loop-holder l =
    (goal.iterator-loop-holder).can_next l.holder-iterator × (goal.iterator-loop-holder).is_finite l.holder-iterator
    × (called_doc l.holder-iterator ≡ l.doc)
    × Reading l.doc (as_kind RevocationList (called_in (document_in l.doc) (xades (codes "EncapsulatedCRLValue")) (called_left l.holder-iterator)))
    (lists_of (document_in l.doc) (spot_of l.doc l.fn.values)) l.fn.octets.items l.octets.items l.fn.bad l.bad
