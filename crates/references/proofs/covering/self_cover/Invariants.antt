use Rattle.doc_spans.specs.Seen.{document_in}
use Rattle.signature_elements.specs.Standing.{spot_of}
use Rattle.references.specs.RefsOf.{references_in}
use Rattle.references.proofs.Covers.{Covering}
use Rattle.references.proofs.covering.self_cover.Given as goal

abbrev pub invariant-loop-number : goal.invariant-loop-number
invariant-loop-number l =
    Covering (document_in l.doc) (spot_of l.doc l.parts.signature) (references_in l.doc l.parts.signature) l.number
