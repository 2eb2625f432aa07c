use Rattle.canon_forms.specs.Forms.{form_in}
use Rattle.doc_spans.specs.Seen.{document_in, path_in}
use Rattle.reference_chains.specs.HandedIn.{handed_in}
use Rattle.references.specs.RefsOf.{references_in}
use Rattle.signature_model.specs.Octets.{reference_octets}
use Rattle.archive_octets.proofs.Joining.{Joined}
use Rattle.archive_octets.proofs.reference_texts.push_references.Given as goal

abbrev pub invariant-loop-number : goal.invariant-loop-number
invariant-loop-number l =
    Joined (reference_octets (form_in l.form) (handed_in l.externals) (document_in l.doc) (path_in l.doc l.refs.signature)) (references_in l.doc l.refs.signature)
    l.number l.fn.out l.out
