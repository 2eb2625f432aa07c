use Rattle.std.proofs.Common.{sym, ◌∙◌}
use Rattle.doc_spans.specs.Seen.{document_in}
use Rattle.policy_rules.specs.View.{rules}
use Rattle.reference_chains.specs.HandedIn.{handed_in}
use Rattle.signature_checks.specs.Validity.{validity_tests}
use Rattle.signature_elements.specs.Standing.{spot_of}
use Rattle.signature_model.specs.Parts.{is_signed, value_octets}
use Rattle.augmenter.proofs.ValidityStays.{known_passes}
use Rattle.augmenter.proofs.judging.judge_signed.Goals as goal

pub returns-then-is_valid : goal.returns-then-is_valid
returns-then-is_valid c =
    let doc = c.args.doc in
    let signature = spot_of doc c.args.opened.now.parts.signature in
    known_passes (is_signed (document_in doc) signature)
    (validity_tests (rules c.args.policy.now) (handed_in c.args.externals.now) (document_in doc) signature (value_octets (document_in doc) signature))
    (sym c.is_signed.ensures ∙ c.if-not-is_signed.false) (c.requires.valid c.if-is_valid.true signature c.requires.opened.read)
