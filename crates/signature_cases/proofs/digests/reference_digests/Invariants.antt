use Rattle.std.proofs.Common.{◌≡◌, map, take}
use Rattle.doc_spans.specs.Seen.{document_in, path_in}
use Rattle.reference_chains.specs.HandedIn.{handed_in}
use Rattle.references.specs.RefsOf.{references_in}
use Rattle.signature_cases.specs.References.{row_of}
use Rattle.signature_cases.proofs.digests.reference_digests.Given as goal

abbrev pub invariant-loop-number : goal.invariant-loop-number
invariant-loop-number l =
    l.rows.items ≡ map (row_of (handed_in l.externals) (document_in l.doc) (path_in l.doc l.refs.signature)) (take l.number (references_in l.doc l.refs.signature))
