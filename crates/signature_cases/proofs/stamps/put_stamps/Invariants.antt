use Rattle.doc_spans.specs.Seen.{document_in}
use Rattle.reference_chains.specs.HandedIn.{handed_in}
use Rattle.signature_elements.specs.Standing.{spot_of}
use Rattle.signature_cases.proofs.Stamped.{Puts}
use Rattle.signature_cases.proofs.stamps.put_stamps.Given as goal

abbrev pub invariant-loop-property : goal.invariant-loop-property
invariant-loop-property l =
    Puts (handed_in l.externals) (document_in l.doc) (spot_of l.doc l.parts.signature) l.property l.fn.case l.case l.words.items
