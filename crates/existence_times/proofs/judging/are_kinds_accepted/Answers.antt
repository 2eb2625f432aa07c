use Rattle.std.proofs.Common.{true≢false, sym, ◌∙◌, subst, to_z-of_z}
use Rattle.acceptance.specs.Objects.{token_of}
use Rattle.policy_rules.specs.Rules.{AcceptsDigest}
use Rattle.policy_rules.specs.View.{rules}
use Rattle.algorithms.specs.declared.digest_kinds.DigestKind.{DigestKind}
use Rattle.existence_times.proofs.judging.are_kinds_accepted.Goals as goal

pub returns-then-not-digest_accepted-2 : goal.returns-then-not-digest_accepted-2
unfolding token_of
returns-then-not-digest_accepted-2 c = (
  λ h. absurd (true≢false (sym h)),
  λ h.
      let content : AcceptsDigest (rules c.args.policy.now) c.content_kind.result c.args.at =
      subst (λ (k : DigestKind). AcceptsDigest (rules c.args.policy.now) k c.args.at) (sym c.content_kind.ensures) h.content in
      absurd (true≢false (sym (c.digest_accepted-2.ensures.1
      (subst (AcceptsDigest (rules c.args.policy.now) c.content_kind.result) (sym (to_z-of_z c.ranges.at)) content)) ∙ c.if-not-digest_accepted-2.true)),
)

pub returns-then-not-digest_accepted-3 : goal.returns-then-not-digest_accepted-3
unfolding token_of
returns-then-not-digest_accepted-3 c = (
  λ h. absurd (true≢false (sym h)),
  λ h.
      let hash : AcceptsDigest (rules c.args.policy.now) c.cert_hash_kind.result c.args.at =
      subst (λ (k : DigestKind). AcceptsDigest (rules c.args.policy.now) k c.args.at) (sym c.cert_hash_kind.ensures) h.cert_hash in
      absurd (true≢false (sym (c.digest_accepted-3.ensures.1
      (subst (AcceptsDigest (rules c.args.policy.now) c.cert_hash_kind.result) (sym (to_z-of_z c.ranges.at)) hash)) ∙ c.if-not-digest_accepted-3.true)),
)
