use Rattle.std.proofs.Common.{◌≡◌, [], codes}
use Rattle.doc_spans.specs.Seen.{document_in}
use Rattle.signature_elements.specs.Standing.{spot_of}
use Rattle.signature_model.specs.Parts.{as_kind, key_certificates, Certificate}
use Rattle.signature_model.specs.Spots.{called_in}
use Rattle.signature_model.specs.Vocabulary.{ds}
use Rattle.signature_parts.specs.ListsLeft.{named_doc, named_left}
use Rattle.qualifying_props.proofs.Reading.{Reading}
use Rattle.qualifying_props.proofs.values.read_key_certs.Given as goal

abbrev pub invariant-loop-holder : goal.invariant-loop-holder
invariant-loop-holder l =
    (goal.iterator-loop-holder).can_next l.holder-iterator × (goal.iterator-loop-holder).is_finite l.holder-iterator
    × (named_doc l.holder-iterator ≡ l.doc)
    × Reading l.doc (as_kind Certificate (called_in (document_in l.doc) (ds (codes "X509Certificate")) (named_left l.holder-iterator)))
    (as_kind Certificate (key_certificates (document_in l.doc) (spot_of l.doc l.fn.signature))) [] l.certs.items l.fn.bad l.bad
