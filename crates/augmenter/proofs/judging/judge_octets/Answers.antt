use Rattle.std.proofs.Common.{subst, sym, to_z-of_z}
use Rattle.doc_spans.specs.Seen.{document_in}
use Rattle.policy_rules.specs.View.{rules}
use Rattle.reference_chains.specs.HandedIn.{handed_in}
use Rattle.signature_elements.specs.Standing.{spot_of}
use Rattle.augmenter.specs.Findings.{IsTested}
use Rattle.augmenter.specs.Items.{octets_test}
use Rattle.augmenter.specs.declared.items.ItemKind.TheVariants.{Archive}
use Rattle.augmenter.proofs.judging.judge_octets.Goals as goal

pub returns-in-Archive : goal.returns-in-Archive
returns-in-Archive c =
    let all = rules c.args.policy.now in
    let handed = handed_in c.args.externals.now in
    let document = document_in c.args.doc in
    let signature = spot_of c.args.doc c.args.opened.now.parts.signature in
    let r = c.judge_archive.result in
    subst (λ k. IsTested (octets_test k c.args.item.now.bytes all handed c.args.moment document signature) r) (sym c.in-Archive.is)
    (subst (λ o. IsTested (octets_test Archive o all handed c.args.moment document signature) r) c.as_slice-octets.ensures.value
    (subst (λ m. IsTested (octets_test Archive c.as_slice-octets.result.now all handed m document signature) r) (to_z-of_z c.ranges.moment) c.judge_archive.ensures))
