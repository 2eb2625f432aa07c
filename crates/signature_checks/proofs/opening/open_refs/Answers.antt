use Rattle.doc_spans.specs.Seen.{document_in}
use Rattle.reference_chains.specs.HandedIn.{handed_in}
use Rattle.references.specs.Answers.{fault_in}
use Rattle.signature_elements.specs.Standing.{spot_of}
use Rattle.signature_checks.proofs.FaultPlaces.{told_whole}
use Rattle.signature_checks.proofs.opening.open_refs.Goals as goal

pub returns-in-Err : goal.returns-in-Err
returns-in-Err c =
    c.objection_by_reference.ensures (fault_in (handed_in c.args.externals.now) c.args.doc c.args.parts.now.signature) c.in-Err.ensures.err
    (told_whole (handed_in c.args.externals.now) c.args.doc c.args.parts.now.signature c.requires.document c.requires.externals)
    (document_in c.args.doc) (spot_of c.args.doc c.args.parts.now.signature)
