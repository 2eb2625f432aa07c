use Rattle.std.proofs.Common.{ap, sym, take, ◌∙◌}
use Rattle.std.proofs.lemmas.Result.{IfOk-weaker}
use Rattle.archive_octets.specs.Kinds.{kind_in}
use Rattle.archive_octets.specs.declared.kinds.StampKind.{StampKind}
use Rattle.doc_spans.specs.Seen.{document_in}
use Rattle.document_model.specs.Canonical.{Form}
use Rattle.reference_chains.specs.HandedIn.{handed_in}
use Rattle.signature_elements.specs.Standing.{spot_of}
use Rattle.signature_model.specs.Octets.{archive_octets, next_form, next_octets}
use Rattle.signature_model.specs.Parts.{properties}
use Rattle.archive_octets.proofs.StampOctets.{all_before}
use Rattle.archive_octets.proofs.stamps.next_octets.Goals as goal

pub returns-in-Archive : goal.returns-in-Archive
returns-in-Archive c =
    let document = document_in c.args.doc in
    let signature = spot_of c.args.doc c.args.parts.now.signature in
    let handed = handed_in c.args.externals.now in
    IfOk-weaker c.archive_octets.result _ _
    (λ octets h. h ∙ ap (λ (form : Form). archive_octets form handed document signature (take c.properties.result (properties document signature))) c.next_form-form.ensures
    ∙ ap (archive_octets next_form handed document signature) (all_before c.args.doc c.args.parts.now c.properties.result c.requires.parts c.properties.ensures)
    ∙ ap (λ (kind : StampKind). next_octets (kind_in kind) handed document signature) (sym c.in-Archive.is)) c.archive_octets.ensures
