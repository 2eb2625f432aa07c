use Rattle.std.proofs.Common.{None, subst, to_z-of_z}
use Rattle.doc_spans.specs.Seen.{bytes_in, document_in}
use Rattle.policy_rules.specs.View.{rules}
use Rattle.reference_chains.specs.HandedIn.{handed_in}
use Rattle.signature_checks.specs.Codes.{first_code}
use Rattle.signature_elements.specs.Standing.{spot_of}
use Rattle.augmenter.specs.Findings.{IsFoundIn, exactly}
use Rattle.augmenter.specs.Items.{octets_test, signature_tests}
use Rattle.augmenter.proofs.OneItem.{found_judging, found_opening, objected_first, objected_later}
use Rattle.augmenter.proofs.judging.judge.Goals as goal

pub returns-in-Err : goal.returns-in-Err
returns-in-Err c = found_opening (rules c.args.policy.now) (handed_in c.args.externals.now) c.args.moment c.args.item.now (bytes_in c.args.doc) c.in-Err.objection c.in-Err.ensures

pub returns-in-Err-judge_signature : goal.returns-in-Err-judge_signature
returns-in-Err-judge_signature c =
    let item = c.args.item.now in
    let doc = c.args.doc in
    let all = rules c.args.policy.now in
    let handed = handed_in c.args.externals.now in
    let signature = spot_of doc c.in-Ok.opened.parts.signature in
    let objection = c.in-Err-judge_signature.objection in
    found_judging all handed c.args.moment item doc c.in-Ok.opened objection c.in-Ok.ensures
    (objected_first (exactly (first_code (signature_tests item.kind item.bytes all handed (document_in doc) signature))) (octets_test item.kind item.bytes all handed c.args.moment (document_in doc) signature)
    objection c.in-Err-judge_signature.ensures)

pub returns-in-Err-judge_octets : goal.returns-in-Err-judge_octets
returns-in-Err-judge_octets c =
    let item = c.args.item.now in
    let doc = c.args.doc in
    let all = rules c.args.policy.now in
    let handed = handed_in c.args.externals.now in
    let signature = spot_of doc c.in-Ok.opened.parts.signature in
    let objection = c.in-Err-judge_octets.objection in
    found_judging all handed c.args.moment item doc c.in-Ok.opened objection c.in-Ok.ensures
    (objected_later (exactly (first_code (signature_tests item.kind item.bytes all handed (document_in doc) signature))) (octets_test item.kind item.bytes all handed c.args.moment (document_in doc) signature)
    objection c.in-Ok-judge_signature.ensures
    (subst (λ m. IsFoundIn (octets_test item.kind item.bytes all handed m (document_in doc) signature) objection) (to_z-of_z c.ranges.moment) c.in-Err-judge_octets.ensures))

pub returns-in-Ok-judge_octets : goal.returns-in-Ok-judge_octets
returns-in-Ok-judge_octets c =
    let item = c.args.item.now in
    let doc = c.args.doc in
    let all = rules c.args.policy.now in
    let handed = handed_in c.args.externals.now in
    let signature = spot_of doc c.in-Ok.opened.parts.signature in (
      c.in-Ok.ensures,
      (c.in-Ok-judge_signature.ensures, subst (λ m. octets_test item.kind item.bytes all handed m (document_in doc) signature None) (to_z-of_z c.ranges.moment) c.in-Ok-judge_octets.ensures),
    )
