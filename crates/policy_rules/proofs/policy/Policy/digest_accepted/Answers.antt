use Rattle.std.proofs.Common.{◌≡◌, refl, subst, to_z, of_z, w64, get_or, None}
use Rattle.std.proofs.lemmas.Int.{to_z-of_z}
use Rattle.algorithms.specs.declared.digest_kinds.DigestKind.TheVariants.{Sha256}
use Rattle.policy_rules.specs.declared.entries.DigestEntry.{DigestEntry}
use Rattle.policy_rules.specs.Rules.{IsDigestRule}
use Rattle.policy_rules.specs.View.{digest_view}
use Rattle.policy_rules.proofs.Found.{IsLeft, starts, goes_on, ends_found, ends_without}
use Rattle.policy_rules.proofs.policy.Policy.digest_accepted.Goals as goal

abbrev first : DigestEntry
first = record { kind = Sha256; until = None }

pub loop-entry-init : goal.loop-entry-init
loop-entry-init c = starts (IsDigestRule c.args.kind (to_z w64 (of_z w64 c.args.at))) digest_view _ _ c.deref-entry-items.ensures.value

pub returns-then-accepts_digest : goal.returns-then-accepts_digest
returns-then-accepts_digest c =
    let same : to_z w64 (of_z w64 c.args.at) ≡ c.args.at = to_z-of_z w64 c.args.at c.ranges.at in
    let holds = subst (λ at. IsDigestRule c.args.kind at (digest_view (get_or c.deref-entry-items.result.now c.loop-entry.entry-index first))) same (c.accepts_digest.ensures.0 c.if-accepts_digest.true) in
    let left = subst (λ at. IsLeft (IsDigestRule c.args.kind at) digest_view c.loop-entry.entry-index c.deref-entry-items.result.now c.args.self.now.digests.items) same c.loop-entry.invariant in (
      λ _. ends_found (IsDigestRule c.args.kind c.args.at) digest_view c.loop-entry.entry-index c.deref-entry-items.result.now c.args.self.now.digests.items first (get_or c.deref-entry-items.result.now c.loop-entry.entry-index first) c.loop-entry-test.true refl holds left,
      λ _. refl,
    )

pub loop-entry-preserved : goal.loop-entry-preserved
loop-entry-preserved c =
    goes_on (IsDigestRule c.args.kind (to_z w64 (of_z w64 c.args.at))) digest_view c.loop-entry.entry-index c.deref-entry-items.result.now c.args.self.now.digests.items first (get_or c.deref-entry-items.result.now c.loop-entry.entry-index first) c.loop-entry-test.true refl (λ p. let held = c.accepts_digest.ensures.1 p in let refused = c.if-accepts_digest.false in cc) c.loop-entry.invariant

pub returns : goal.returns
returns c =
    let same : to_z w64 (of_z w64 c.args.at) ≡ c.args.at = to_z-of_z w64 c.args.at c.ranges.at in
    let left = subst (λ at. IsLeft (IsDigestRule c.args.kind at) digest_view c.loop-entry.entry-index c.deref-entry-items.result.now c.args.self.now.digests.items) same c.loop-entry.invariant in (
      λ h. cc,
      λ h. absurd (ends_without (IsDigestRule c.args.kind c.args.at) digest_view c.loop-entry.entry-index c.deref-entry-items.result.now c.args.self.now.digests.items c.loop-entry-test.false left h),
    )
