use Rattle.doc_spans.specs.Seen.{document_in, path_in}
use Rattle.signature_elements.specs.Standing.{spot_of}
use Rattle.signature_model.specs.Chains.{not_base64}
use Rattle.reference_chains.specs.declared.references.Reference.{Reference}
use Rattle.reference_chains.specs.HandedIn.{handed_in}
use Rattle.references.proofs.Judging.{Judging}
use Rattle.references.proofs.handing.refuse_undecoded.Given as goal

abbrev pub invariant-loop-number : goal.invariant-loop-number
invariant-loop-number l =
    Judging (not_base64 (handed_in l.externals) (document_in l.doc) (path_in l.doc l.signature)) (λ (r : Reference). spot_of l.doc r.node) l.all l.number
