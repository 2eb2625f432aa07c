use Rattle.std.proofs.Common.{◌≡◌, codes}
use Rattle.doc_spans.specs.Seen.{document_in}
use Rattle.signature_elements.specs.Standing.{spot_of}
use Rattle.signature_model.specs.Parts.{includes}
use Rattle.signature_model.specs.Spots.{called_in, paths}
use Rattle.signature_model.specs.Vocabulary.{xades}
use Rattle.signature_parts.specs.StampsLeft.{stamps_doc, stamps_left}
use Rattle.qualifying_props.proofs.Finding.{Finding}
use Rattle.qualifying_props.proofs.includes.first_include.Given as goal

abbrev pub invariant-loop-stamp : goal.invariant-loop-stamp
invariant-loop-stamp l =
    (goal.iterator-loop-stamp).can_next l.stamp-iterator × (goal.iterator-loop-stamp).is_finite l.stamp-iterator
    × (stamps_doc l.stamp-iterator ≡ l.doc)
    × Finding l.doc (paths (called_in (document_in l.doc) (xades (codes "Include")) (stamps_left l.stamp-iterator)))
    (paths (includes (document_in l.doc) (spot_of l.doc l.fn.signature))) l.place
