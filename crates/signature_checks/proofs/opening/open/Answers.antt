use Rattle.doc_spans.specs.Seen.{bytes_in, document_in}
use Rattle.qualifying_props.specs.Whole.{is_whole}
use Rattle.reference_chains.specs.HandedIn.{handed_in}
use Rattle.signature_elements.specs.Standing.{spot_of}
use Rattle.signature_model.specs.Readable.{answer}
use Rattle.signature_checks.proofs.Found.{found_of_answer, found_of_references}
use Rattle.signature_checks.proofs.opening.open.Goals as goal

pub returns-in-Err-open_refs : goal.returns-in-Err-open_refs
returns-in-Err-open_refs c =
    found_of_references (handed_in c.args.externals.now) (bytes_in c.args.doc) (document_in c.args.doc) (spot_of c.args.doc c.in-Ok.parts.signature)
    c.in-Err-open_refs.objection c.in-Ok.ensures.0 c.in-Err-open_refs.ensures

pub returns-in-Err : goal.returns-in-Err
returns-in-Err c =
    found_of_answer (handed_in c.args.externals.now) (bytes_in c.args.doc) (document_in c.args.doc) c.objection_by_parts.result
    (c.objection_by_parts.ensures c.args.doc (answer is_whole (document_in c.args.doc)) c.in-Err.ensures)
