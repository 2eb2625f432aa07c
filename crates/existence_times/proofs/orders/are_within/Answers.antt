use Rattle.std.proofs.Common.{◌≡◌, ℕ, ◌≤ℤ◌, List, arith, refl, sym, ap, subst, ◌∙◌, ⊎_elim, true≢false, SFits, w64, to_z-of_z}
use Rattle.std.proofs.lemmas.Bool.{cases_lt}
use Rattle.std.proofs.lemmas.Int.{ints}
use Rattle.std.proofs.lemmas.Option.{slice_get_within}
use Rattle.acceptance.specs.Objects.{token_of}
use Rattle.acceptance.specs.Walks.{time}
use Rattle.existence_times.specs.declared.rows.StampRow.{StampRow}
use Rattle.existence_times.specs.Kept.{row_stamp}
use Rattle.existence_times.proofs.Ordered.{row_at, same_row}
use Rattle.existence_times.proofs.orders.are_within.Goals as goal

pub returns-then-gen_time-time : goal.returns-then-gen_time-time
returns-then-gen_time-time c =
    let row = c.index-stamps-number.result in
    let made : SFits w64 c.gen_time.result = record { sfits = c.gen_time.type_inv } in
    let most : SFits w64 c.time.result = record { sfits = c.time.type_inv } in
    let gen = to_z-of_z made in
    let limit = to_z-of_z most in
    let is : c.gen_time.result ≡ (row_stamp c.args.tokens.now row).token.gen_time = c.gen_time.ensures ∙ ap (λ (b : List ℕ). (token_of b).gen_time) c.bytes_of.ensures in
    let at = c.time.ensures in
    let above = c.if-gen_time-time.true in (
      λ h. absurd (true≢false (sym h)),
      λ all.
          let le = all c.loop-number.number row (row_at c.args.stamps.now c.loop-number.number row c.loop-number-test.true c.index-stamps-number.is) in
          grind (arith, ints, le, above, is, at, gen, limit),
    )

pub loop-number-preserved : goal.loop-number-preserved
loop-number-preserved c j row lt at =
    let read = c.index-stamps-number.result in
    let made : SFits w64 c.gen_time.result = record { sfits = c.gen_time.type_inv } in
    let most : SFits w64 c.time.result = record { sfits = c.time.type_inv } in
    let gen = to_z-of_z made in
    let limit = to_z-of_z most in
    let is : c.gen_time.result ≡ (row_stamp c.args.tokens.now read).token.gen_time = c.gen_time.ensures ∙ ap (λ (b : List ℕ). (token_of b).gen_time) c.bytes_of.ensures in
    let is_limit = c.time.ensures in
    let below = c.if-gen_time-time.false in
    ⊎_elim
    (λ before. c.loop-number.invariant j row before at)
    (λ from.
    let here : j ≡ c.loop-number.number = omega arith in
    let there = row_at c.args.stamps.now c.loop-number.number read c.loop-number-test.true c.index-stamps-number.is in
    let le : (row_stamp c.args.tokens.now read).token.gen_time ≤ℤ time c.args.limits.now read.object.number = grind (arith, ints, below, is, is_limit, gen, limit) in
    subst (λ (r : StampRow). (row_stamp c.args.tokens.now r).token.gen_time ≤ℤ time c.args.limits.now r.object.number) (same_row c.args.stamps.now c.loop-number.number j read row here there at) le)
    (cases_lt j c.loop-number.number)

pub returns : goal.returns
returns c = (
  λ h j row at.
      let within = slice_get_within c.args.stamps.now j row at in
      let end = c.loop-number-test.false in
      c.loop-number.invariant j row (omega arith) at,
  λ h. refl,
)
