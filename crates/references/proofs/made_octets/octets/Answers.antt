use Rattle.canon_forms.specs.Forms.{form_in}
use Rattle.doc_spans.specs.Seen.{document_in}
use Rattle.signature_model.specs.Octets.{reference_octets}
use Rattle.reference_chains.specs.HandedIn.{handed_in}
use Rattle.references.proofs.Numbered.{octets_numbered}
use Rattle.references.proofs.made_octets.octets.Goals as goal

pub returns : goal.returns
returns c =
    octets_numbered (reference_octets (form_in c.args.form.now) (handed_in c.args.externals.now) (document_in c.args.doc)) c.args.doc c.args.refs.now c.args.k
    c.reference.result c.signature.result c.octets_of.result c.requires.refs c.signature.ensures c.reference.ensures c.octets_of.ensures
