use Rattle.std.proofs.Common.{◌≡◌, List, ℤ, length, sym, ap, subst, ◌∙◌, to_z-of_z, to_z, of_z, w64}
use Rattle.policy_rules.specs.View.{rules}
use Rattle.existence_times.specs.Shown.{AreEarliestOf}
use Rattle.sample_cases.proofs.times.earliest_times.Goals as goal

pub listed-requires : goal.listed-requires
listed-requires c = c.in_ok-times.ensures.closed.each ∙ sym (ap length c.pool.ensures)

pub returns : goal.returns
returns c =
    subst (λ (z : ℤ). AreEarliestOf (rules c.args.policy.now) c.args.case.now z c.in_ok-list.list.items) (to_z-of_z c.ranges.now)
    (subst (λ (l : List ℤ). AreEarliestOf (rules c.args.policy.now) c.args.case.now (to_z w64 (of_z w64 c.args.now)) l) (sym c.in_ok-list.ensures) c.in_ok-times.ensures)
