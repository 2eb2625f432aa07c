use Rattle.std.proofs.Common.{◌≡◌, codes}
use Rattle.doc_spans.specs.Seen.{document_in}
use Rattle.signature_elements.specs.Standing.{spot_of}
use Rattle.signature_model.specs.Parts.{key_certificates}
use Rattle.signature_model.specs.Spots.{called_in}
use Rattle.signature_model.specs.Vocabulary.{ds}
use Rattle.signature_parts.specs.ListsLeft.{named_doc, named_left}
use Rattle.inner_lines.proofs.key.has_certificate.Given as goal

-- those that were passed have none
abbrev pub invariant-loop-holder : goal.invariant-loop-holder
invariant-loop-holder l =
    (goal.iterator-loop-holder).can_next l.holder-iterator × (goal.iterator-loop-holder).is_finite l.holder-iterator
    × (named_doc l.holder-iterator ≡ l.doc)
    × (called_in (document_in l.doc) (ds (codes "X509Certificate")) (named_left l.holder-iterator) ≡ key_certificates (document_in l.doc) (spot_of l.doc l.fn.signature))
