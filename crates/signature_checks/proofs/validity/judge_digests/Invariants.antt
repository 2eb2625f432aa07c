use Rattle.doc_spans.specs.Seen.{document_in, path_in}
use Rattle.reference_chains.specs.HandedIn.{handed_in}
use Rattle.references.specs.RefsOf.{references_in}
use Rattle.signature_checks.proofs.Differing.{Differing}
use Rattle.signature_checks.proofs.validity.judge_digests.Given as goal

abbrev pub invariant-loop-number : goal.invariant-loop-number
invariant-loop-number l =
    Differing (handed_in l.externals) (document_in l.doc) (path_in l.doc l.refs.signature) (references_in l.doc l.refs.signature) l.number
