use Rattle.std.proofs.Common.{Some, ap, sym, take, ◌∙◌}
use Rattle.std.proofs.lemmas.Result.{IfOk-weaker}
use Rattle.doc_spans.specs.Seen.{document_in}
use Rattle.document_model.specs.Canonical.{Form}
use Rattle.reference_chains.specs.HandedIn.{handed_in}
use Rattle.signature_elements.specs.Standing.{spot_of}
use Rattle.signature_model.specs.Octets.{archive_octets, stamp_octets}
use Rattle.signature_model.specs.Parts.{properties}
use Rattle.signature_parts.specs.declared.kinds.PropertyKind.TheVariants.{SignatureStamp, ArchiveStamp, Material, Passed}
use Rattle.archive_octets.proofs.StampOctets.{octets_told, property_there}
use Rattle.archive_octets.proofs.stamps.octets_at.Goals as goal

pub stamp_form-form-requires : goal.stamp_form-form-requires
stamp_form-form-requires c = property_there c.args.doc c.args.parts.now c.args.property c.property_node.result c.requires.parts c.property_node.ensures

pub returns-in-SignatureStamp : goal.returns-in-SignatureStamp
returns-in-SignatureStamp c =
    let document = document_in c.args.doc in
    let signature = spot_of c.args.doc c.args.parts.now.signature in
    let handed = handed_in c.args.externals.now in
    let before = take c.args.property (properties document signature) in
    IfOk-weaker c.value_text.result _ _
    (λ octets h. octets_told handed c.args.doc c.args.parts.now c.args.property c.property_node.result SignatureStamp before c.requires.parts c.property_node.ensures c.in-SignatureStamp.ensures
    ∙ ap Some (sym (h ∙ ap (λ (form : Form). stamp_octets form document signature) c.stamp_form-form.ensures))) c.value_text.ensures

pub returns-in-ArchiveStamp : goal.returns-in-ArchiveStamp
returns-in-ArchiveStamp c =
    let document = document_in c.args.doc in
    let signature = spot_of c.args.doc c.args.parts.now.signature in
    let handed = handed_in c.args.externals.now in
    let before = take c.args.property (properties document signature) in
    IfOk-weaker c.archive_octets.result _ _
    (λ octets h. octets_told handed c.args.doc c.args.parts.now c.args.property c.property_node.result ArchiveStamp before c.requires.parts c.property_node.ensures c.in-ArchiveStamp.ensures
    ∙ ap Some (sym (h ∙ ap (λ (form : Form). archive_octets form handed document signature before) c.stamp_form-form.ensures))) c.archive_octets.ensures

pub returns-in-Material : goal.returns-in-Material
returns-in-Material c =
    let document = document_in c.args.doc in
    let signature = spot_of c.args.doc c.args.parts.now.signature in
    octets_told (handed_in c.args.externals.now) c.args.doc c.args.parts.now c.args.property c.property_node.result Material (take c.args.property (properties document signature))
    c.requires.parts c.property_node.ensures c.in-Material.ensures ∙ ap Some (sym c.new.ensures)

pub returns-in-Passed : goal.returns-in-Passed
returns-in-Passed c =
    let document = document_in c.args.doc in
    let signature = spot_of c.args.doc c.args.parts.now.signature in
    octets_told (handed_in c.args.externals.now) c.args.doc c.args.parts.now c.args.property c.property_node.result Passed (take c.args.property (properties document signature))
    c.requires.parts c.property_node.ensures c.in-Passed.ensures ∙ ap Some (sym c.new-in-Passed.ensures)
