use Rattle.std.proofs.Common.{sym, ◌∙◌}
use Rattle.doc_spans.specs.Seen.{document_in, path_in}
use Rattle.reference_chains.specs.HandedIn.{handed_in}
use Rattle.references.specs.RefsOf.{references_in}
use Rattle.signature_checks.proofs.Differing.{differing_found, differing_on}
use Rattle.signature_checks.proofs.validity.judge_digests.Goals as goal

pub returns-in-Some : goal.returns-in-Some
returns-in-Some c =
    let doc = c.args.doc in
    let signature = c.args.refs.now.signature in
    let found = differing_found (handed_in c.args.externals.now) (document_in doc) (path_in doc signature) (references_in doc signature) c.loop-number.number
    c.in_ok-found.found c.in-Some.code c.in_ok-found.ensures c.in-Some.is c.loop-number.invariant in
    sym (found ∙ c.in-Some.is)

pub loop-number-preserved : goal.loop-number-preserved
loop-number-preserved c =
    let doc = c.args.doc in
    let signature = c.args.refs.now.signature in
    differing_on (handed_in c.args.externals.now) (document_in doc) (path_in doc signature) (references_in doc signature) c.loop-number.number
    c.in_ok-found.found c.in_ok-found.ensures c.in-None.is c.loop-number.invariant
