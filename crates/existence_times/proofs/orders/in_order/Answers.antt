use Rattle.std.proofs.Common.{◌≡◌, ℕ, List, length, map, replicate, slice_get, Some, ℤ, ap, ◌∙◌, to_z-of_z}
use Rattle.std.proofs.lemmas.List.{length-replicate}
use Rattle.existence_times.specs.declared.rows.StampRow.{StampRow}
use Rattle.existence_times.specs.Kept.{row_stamp, IsStampKept}
use Rattle.existence_times.specs.Orders.{limited}
use Rattle.existence_times.proofs.Ordered.{are_of, by_rows, in_order_is, kept_rows, limited_long, stamps_shown}
use Rattle.existence_times.proofs.orders.in_order.Goals as goal

pub limits-requires : goal.limits-requires
limits-requires c = record {
  kept = kept_rows c.case.inside.pool c.case.inside.tokens.items c.case.inside.stamps.items c.as_slice-tokens.result.now c.as_slice-stamps.result.now
      c.as_slice-tokens.ensures.value c.as_slice-stamps.ensures.value c.case.invariant.each;
}

pub are_within-requires-clause-kept : goal.are_within-requires-clause-kept
are_within-requires-clause-kept c =
    kept_rows c.case.inside.pool c.case.inside.tokens.items c.case.inside.stamps.items c.as_slice-tokens.result.now c.as_slice-stamps.result.now
    c.as_slice-tokens.ensures.value c.as_slice-stamps.ensures.value c.case.invariant.each

pub are_within-requires-clause-limits : goal.are_within-requires-clause-limits
are_within-requires-clause-limits c =
    ap (λ (l : List ℤ). length l) c.in_ok-limits.ensures
    ∙ limited_long (map (row_stamp c.as_slice-tokens.result.now) c.as_slice-stamps.result.now) _ ∙ length-replicate (length c.case.inside.pool) _

pub returns : goal.returns
returns c case same =
    let pool = c.case.inside.pool in
    let tokens = c.as_slice-tokens.result.now in
    let stamps = c.as_slice-stamps.result.now in
    let kept : (k : ℕ) (row : StampRow) → slice_get stamps k ≡ Some row → IsStampKept pool tokens row =
    kept_rows pool c.case.inside.tokens.items c.case.inside.stamps.items tokens stamps c.as_slice-tokens.ensures.value c.as_slice-stamps.ensures.value c.case.invariant.each in
    let all = by_rows tokens stamps c.in_ok-limits.limits in
    in_order_is (length pool) (map (row_stamp tokens) stamps) c.args.now c.in_ok-limits.limits c.are_within.result case (are_of pool tokens stamps kept)
    (c.in_ok-limits.ensures ∙ ap (λ (z : ℤ). limited (map (row_stamp tokens) stamps) (replicate (length pool) z)) (to_z-of_z c.ranges.now))
    (same ∙ stamps_shown pool c.case.inside.references c.case.inside.tokens.items c.case.inside.stamps.items tokens stamps c.args.case.now
    c.as_slice-tokens.ensures.value c.as_slice-stamps.ensures.value c.case.view_is)
    ((λ h. all.0 (c.are_within.ensures.0 h)), (λ h. c.are_within.ensures.1 (all.1 h)))
