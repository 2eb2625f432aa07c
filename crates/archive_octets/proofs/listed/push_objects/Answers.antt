use Rattle.std.proofs.Common.{◌≤◌, length, arith}
use Rattle.canon_forms.specs.Forms.{form_in}
use Rattle.doc_spans.specs.Seen.{document_in}
use Rattle.signature_elements.specs.Standing.{spot_of}
use Rattle.signature_model.specs.Octets.{subtree_octets}
use Rattle.signature_model.specs.Parts.{other_objects}
use Rattle.archive_octets.proofs.Joining.{joined_on, joined_ends}
use Rattle.archive_octets.proofs.Listing.{as_many, element_at, element_there}
use Rattle.archive_octets.proofs.listed.push_objects.Goals as goal

pub push_element-requires : goal.push_element-requires
push_element-requires c =
    element_there c.args.doc _ c.args.parts.now.objects c.loop-number.number c.object_node-object.result c.requires.objects c.object_node-object.ensures

pub loop-number-preserved : goal.loop-number-preserved
loop-number-preserved c =
    let doc = c.args.doc in
    let spots = other_objects (document_in doc) (spot_of doc c.args.parts.now.signature) in
    joined_on (subtree_octets (form_in c.args.form.now) (document_in doc)) spots c.loop-number.number (spot_of doc c.object_node-object.result) _ _ _
    (element_at doc spots c.args.parts.now.objects c.loop-number.number c.object_node-object.result c.requires.objects c.object_node-object.ensures)
    c.in_ok-push_element.ensures c.loop-number.invariant

pub returns : goal.returns
returns c =
    let doc = c.args.doc in
    let spots = other_objects (document_in doc) (spot_of doc c.args.parts.now.signature) in
    let many = as_many doc spots c.args.parts.now.objects c.requires.objects in
    let past : length spots ≤ c.loop-number.number = omega (arith, many, c.objects-number-end.ensures, c.loop-number-test.false) in
    joined_ends (subtree_octets (form_in c.args.form.now) (document_in doc)) spots c.loop-number.number _ _ past c.loop-number.invariant
