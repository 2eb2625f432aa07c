use Rattle.std.proofs.Common.{◌+◌, get_or, sym, ◌∙◌}
use Rattle.std.proofs.lemmas.List.{get_or_default}
use Rattle.doc_spans.specs.Seen.{document_in, path_in}
use Rattle.signature_elements.specs.Standing.{spot_of}
use Rattle.signature_model.specs.Chains.{chain, decoded_text, not_base64, whole_text}
use Rattle.reference_chains.specs.declared.references.Reference.{Reference}
use Rattle.reference_chains.specs.HandedIn.{handed_in}
use Rattle.references.specs.declared.faults.RefFault.TheVariants.{Base64}
use Rattle.references.proofs.Anyone.{any_reference}
use Rattle.references.proofs.Judging.{judging_found, judging_on}
use Rattle.references.proofs.Told.{fault_is_told, no_fault_told}
use Rattle.references.proofs.handing.refuse_undecoded.Goals as goal

pub returns-in-Some-clause-err : goal.returns-in-Some-clause-err
returns-in-Some-clause-err c =
    let doc = c.args.doc in
    let document = document_in doc in
    let path = path_in doc c.args.signature in
    let handed = handed_in c.args.externals.now in
    let all = c.args.all.now in
    let number = c.loop-number.number in
    let reference = get_or all number any_reference in
    let spot = spot_of doc reference.node in
    judging_found (not_base64 handed document path) (λ (r : Reference). spot_of doc r.node) all number reference (Base64 (number + 1) c.in-Some.at) c.loop-number-test.true
    (get_or_default all number any_reference reference c.loop-number-test.true)
    (fault_is_told (decoded_text (whole_text handed document path spot) (chain document spot)) (number + 1) c.in-Some.at (sym c.in-Some.is ∙ c.base64_fault.ensures))
    c.loop-number.invariant

pub loop-number-preserved : goal.loop-number-preserved
loop-number-preserved c =
    let doc = c.args.doc in
    let document = document_in doc in
    let path = path_in doc c.args.signature in
    let handed = handed_in c.args.externals.now in
    let all = c.args.all.now in
    let number = c.loop-number.number in
    let reference = get_or all number any_reference in
    let spot = spot_of doc reference.node in
    judging_on (not_base64 handed document path) (λ (r : Reference). spot_of doc r.node) all number reference c.loop-number-test.true
    (get_or_default all number any_reference reference c.loop-number-test.true)
    (no_fault_told (decoded_text (whole_text handed document path spot) (chain document spot)) (number + 1) (sym c.in_default.is ∙ c.base64_fault.ensures))
    c.loop-number.invariant
