use Rattle.std.proofs.Common.{ap, take, ◌++◌}
use Rattle.std.specs.Prelude.{flat_map}
use Rattle.canon_forms.specs.Forms.{form_in}
use Rattle.doc_spans.specs.declared.documents.NodeId.{NodeId}
use Rattle.doc_spans.specs.Seen.{document_in, path_in}
use Rattle.reference_chains.specs.HandedIn.{handed_in}
use Rattle.references.specs.RefsOf.{references_in}
use Rattle.signature_elements.specs.Standing.{spot_of}
use Rattle.signature_model.specs.Octets.{joined_octets, reference_octets}
use Rattle.signature_model.specs.Parts.{key_info, other_objects, properties, signed_info, value}
use Rattle.archive_octets.proofs.Joining.{four_joined}
use Rattle.archive_octets.proofs.archives.archive_octets.Goals as goal

pub returns : goal.returns
returns c =
    let doc = c.args.doc in
    let document = document_in doc in
    let signature = spot_of doc c.args.parts.now.signature in
    let octets = λ (node : NodeId). flat_map (reference_octets (form_in c.args.form.now) (handed_in c.args.externals.now) document (path_in doc node)) (references_in doc node) in
    let joined = joined_octets (form_in c.args.form.now) document in
    four_joined (octets c.args.refs.now.signature) (octets c.args.parts.now.signature) (joined (signed_info document signature ++ value document signature ++ key_info document signature))
    (joined (take c.args.before (properties document signature))) (joined (other_objects document signature)) c.new-out.result c.push_references.new.out c.push_signed.new.out
    c.push_properties.new.out c.push_objects.new.out c.new-out.ensures c.in_ok-push_references.ensures c.in_ok-push_signed.ensures c.in_ok-push_properties.ensures
    c.in_ok-push_objects.ensures (ap octets c.requires.refs.signature)
