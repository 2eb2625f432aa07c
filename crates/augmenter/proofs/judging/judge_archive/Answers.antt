use Rattle.std.proofs.Common.{subst, to_z-of_z}
use Rattle.archive_octets.specs.declared.kinds.StampKind.TheVariants.{Archive}
use Rattle.doc_spans.specs.Seen.{document_in}
use Rattle.policy_rules.specs.View.{rules}
use Rattle.reference_chains.specs.HandedIn.{handed_in}
use Rattle.signature_elements.specs.Standing.{spot_of}
use Rattle.augmenter.specs.Findings.{IsFoundIn}
use Rattle.augmenter.specs.Items.{complete_test, stamp_test}
use Rattle.augmenter.proofs.OneItem.{objected_first}
use Rattle.augmenter.proofs.judging.judge_archive.Goals as goal

pub returns-in-Err : goal.returns-in-Err
returns-in-Err c =
    let handed = handed_in c.args.externals.now in
    let document = document_in c.args.doc in
    let signature = spot_of c.args.doc c.args.opened.now.parts.signature in
    objected_first (stamp_test Archive handed c.args.moment document signature c.args.token.now) (complete_test (rules c.args.policy.now) document signature) c.in-Err.objection
    (subst (λ m. IsFoundIn (stamp_test Archive handed m document signature c.args.token.now) c.in-Err.objection) (to_z-of_z c.ranges.moment) c.in-Err.ensures)

pub judge_complete-requires : goal.judge_complete-requires
judge_complete-requires c = (c.args.doc, (c.requires.read, c.requires.parts, c.requires.whole))
