use Rattle.std.proofs.Common.{◌≡◌, ◌++◌, ap, take, arith, ◌∙◌}
use Rattle.canon_forms.specs.Forms.{form_in}
use Rattle.doc_spans.specs.Seen.{document_in}
use Rattle.signature_elements.specs.Standing.{spot_of}
use Rattle.signature_model.specs.Octets.{joined_octets, subtree_octets}
use Rattle.signature_model.specs.Parts.{properties}
use Rattle.archive_octets.proofs.Joining.{joined_on}
use Rattle.archive_octets.proofs.Listing.{element_at, element_there, node_at, nodes_of}
use Rattle.archive_octets.proofs.listed.push_properties.Goals as goal

pub push_element-requires : goal.push_element-requires
push_element-requires c =
    let shown = c.args.parts.now.properties in
    element_there c.args.doc _ (nodes_of shown) c.loop-number.number c.property_node-property.result c.requires.parts.properties.elements
    (node_at shown c.loop-number.number c.property_node-property.result c.property_node-property.ensures)

pub loop-number-preserved : goal.loop-number-preserved
loop-number-preserved c =
    let doc = c.args.doc in
    let shown = c.args.parts.now.properties in
    let spots = properties (document_in doc) (spot_of doc c.args.parts.now.signature) in
    joined_on (subtree_octets (form_in c.args.form.now) (document_in doc)) spots c.loop-number.number (spot_of doc c.property_node-property.result) _ _ _
    (element_at doc spots (nodes_of shown) c.loop-number.number c.property_node-property.result c.requires.parts.properties.elements
    (node_at shown c.loop-number.number c.property_node-property.result c.property_node-property.ensures))
    c.in_ok-push_element.ensures c.loop-number.invariant

pub returns : goal.returns
returns c =
    let doc = c.args.doc in
    let spots = properties (document_in doc) (spot_of doc c.args.parts.now.signature) in
    let whole : c.loop-number.number ≡ c.args.count = omega (arith, c.loop-number.auto.number-end, c.loop-number-test.false) in
    c.loop-number.invariant.is ∙ ap (λ n. c.args.out.now ++ joined_octets (form_in c.args.form.now) (document_in doc) (take n spots)) whole
