use Rattle.canon_forms.specs.Forms.{form_in}
use Rattle.doc_spans.specs.Seen.{document_in}
use Rattle.signature_elements.specs.Standing.{spot_of}
use Rattle.signature_model.specs.Octets.{subtree_octets}
use Rattle.signature_model.specs.Parts.{properties}
use Rattle.archive_octets.proofs.Joining.{Joined}
use Rattle.archive_octets.proofs.listed.push_properties.Given as goal

abbrev pub invariant-loop-number : goal.invariant-loop-number
invariant-loop-number l =
    Joined (subtree_octets (form_in l.form) (document_in l.doc)) (properties (document_in l.doc) (spot_of l.doc l.parts.signature)) l.number l.fn.out l.out
