use Rattle.std.proofs.Common.{◌≡◌, refl, subst, to_z, of_z, w64}
use Rattle.std.proofs.lemmas.Int.{to_z-of_z}
use Rattle.policy_rules.specs.Rules.{IsKindRule}
use Rattle.policy_rules.specs.View.{kind_view}
use Rattle.policy_rules.proofs.Found.{IsLeft, starts, goes_on, ends_found, ends_without}
use Rattle.policy_rules.proofs.policy.Policy.kind_accepted.Goals as goal

pub loop-entry-init : goal.loop-entry-init
loop-entry-init c = starts (IsKindRule c.args.kind (to_z w64 (of_z w64 c.args.at))) kind_view _ _ c.deref-entry-items.ensures.value

pub returns-then-accepts_kind : goal.returns-then-accepts_kind
returns-then-accepts_kind c =
    let same : to_z w64 (of_z w64 c.args.at) ≡ c.args.at = to_z-of_z w64 c.args.at c.ranges.at in
    let holds = subst (λ at. IsKindRule c.args.kind at (kind_view c.entry-item.result)) same (c.accepts_kind.ensures.0 c.if-accepts_kind.true) in
    let left = subst (λ at. IsLeft (IsKindRule c.args.kind at) kind_view c.loop-entry.entry-index c.deref-entry-items.result.now c.args.self.now.kinds.items) same c.loop-entry.invariant in (
      λ _. ends_found (IsKindRule c.args.kind c.args.at) kind_view c.loop-entry.entry-index c.deref-entry-items.result.now c.args.self.now.kinds.items c.entry-item.result c.entry-item.result c.loop-entry-test.true c.entry-item.is holds left,
      λ _. refl,
    )

pub loop-entry-preserved : goal.loop-entry-preserved
loop-entry-preserved c =
    goes_on (IsKindRule c.args.kind (to_z w64 (of_z w64 c.args.at))) kind_view c.loop-entry.entry-index c.deref-entry-items.result.now c.args.self.now.kinds.items c.entry-item.result c.entry-item.result c.loop-entry-test.true c.entry-item.is (λ p. let held = c.accepts_kind.ensures.1 p in let refused = c.if-accepts_kind.false in cc) c.loop-entry.invariant

pub returns : goal.returns
returns c =
    let same : to_z w64 (of_z w64 c.args.at) ≡ c.args.at = to_z-of_z w64 c.args.at c.ranges.at in
    let left = subst (λ at. IsLeft (IsKindRule c.args.kind at) kind_view c.loop-entry.entry-index c.deref-entry-items.result.now c.args.self.now.kinds.items) same c.loop-entry.invariant in (
      λ h. cc,
      λ h. absurd (ends_without (IsKindRule c.args.kind c.args.at) kind_view c.loop-entry.entry-index c.deref-entry-items.result.now c.args.self.now.kinds.items c.loop-entry-test.false left h),
    )
