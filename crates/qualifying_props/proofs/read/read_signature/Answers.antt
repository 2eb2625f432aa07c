use Rattle.std.proofs.Common.{ap}
use Rattle.doc_spans.specs.Seen.{document_in}
use Rattle.signature_model.specs.Parts.{counted}
use Rattle.signature_model.specs.Readable.{only, read_parts}
use Rattle.qualifying_props.specs.Whole.{is_whole}
use Rattle.qualifying_props.proofs.Answering.{are_several, only_answer}
use Rattle.qualifying_props.proofs.read.read_signature.Goals as goal

pub returns-in-Nothing : goal.returns-in-Nothing
returns-in-Nothing c = ap (only (read_parts is_whole (document_in c.args.doc))) c.in-Nothing.ensures

pub returns-in-Several : goal.returns-in-Several
returns-in-Several c = are_several (read_parts is_whole (document_in c.args.doc)) (counted (document_in c.args.doc)) c.in-Several.ensures

pub returns-in-One : goal.returns-in-One
returns-in-One c =
    only_answer c.args.doc c.in-One.signature c.read_parts.result c.in-One.ensures.1 c.read_parts.ensures.parts c.read_parts.ensures.read c.read_parts.ensures.err
