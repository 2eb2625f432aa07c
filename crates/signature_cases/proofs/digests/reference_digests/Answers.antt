use Rattle.std.proofs.Common.{◌∙◌}
use Rattle.doc_spans.specs.Seen.{document_in, path_in}
use Rattle.reference_chains.specs.HandedIn.{handed_in}
use Rattle.references.specs.RefsOf.{references_in}
use Rattle.signature_cases.specs.References.{row_of}
use Rattle.signature_cases.proofs.Referred.{rows_on}
use Rattle.signature_cases.proofs.digests.reference_digests.Goals as goal

pub loop-number-preserved : goal.loop-number-preserved
loop-number-preserved c =
    let doc = c.args.doc in
    let signature = c.args.refs.now.signature in
    c.in-Ok.ensures.items
    ∙ rows_on (row_of (handed_in c.args.externals.now) (document_in doc) (path_in doc signature)) (references_in doc signature) c.loop-number.number c.in_ok-row.row c.loop-number.rows.items
    c.in_ok-row.ensures c.loop-number.invariant
