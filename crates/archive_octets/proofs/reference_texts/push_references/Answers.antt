use Rattle.std.proofs.Common.{◌≡◌, ◌≤◌, ◌+◌, ◌-◌, ◌++◌, length, sym, ap, ◌∙◌, arith}
use Rattle.std.specs.Prelude.{slice_get}
use Rattle.canon_forms.specs.Forms.{form_in}
use Rattle.doc_spans.specs.Seen.{document_in, path_in}
use Rattle.reference_chains.specs.HandedIn.{handed_in}
use Rattle.references.specs.RefsOf.{references_in}
use Rattle.signature_model.specs.Octets.{reference_octets}
use Rattle.archive_octets.proofs.Joining.{joined_on, joined_ends}
use Rattle.archive_octets.proofs.Listing.{mapped, so_many_references}
use Rattle.archive_octets.proofs.reference_texts.push_references.Goals as goal

pub loop-number-preserved : goal.loop-number-preserved
loop-number-preserved c =
    let doc = c.args.doc in
    let signature = c.args.refs.now.signature in
    let number = c.loop-number.number in
    let spots = references_in doc signature in
    let octets = reference_octets (form_in c.args.form.now) (handed_in c.args.externals.now) (document_in doc) (path_in doc signature) in
    let same : number + 1 - 1 ≡ number = omega arith in
    let at = mapped octets (slice_get spots (number + 1 - 1)) c.in_ok-text.text c.in_ok-text.ensures in
    joined_on octets spots number at.0 _ _ _ (ap (slice_get spots) (sym same) ∙ at.1)
    (c.in_ok-push_all.ensures.ok ∙ ap (λ os. c.loop-number.out ++ os) (c.as_slice.ensures.value ∙ sym at.2)) c.loop-number.invariant

pub returns : goal.returns
returns c =
    let doc = c.args.doc in
    let signature = c.args.refs.now.signature in
    let spots = references_in doc signature in
    let many = so_many_references doc c.args.refs.now c.requires in
    let past : length spots ≤ c.loop-number.number = omega (arith, many, c.len-number-end.ensures, c.loop-number-test.false) in
    joined_ends (reference_octets (form_in c.args.form.now) (handed_in c.args.externals.now) (document_in doc) (path_in doc signature)) spots c.loop-number.number _ _ past
    c.loop-number.invariant
