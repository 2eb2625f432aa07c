use Rattle.std.proofs.Common.{◌-◌, ◌<◌, length, arith, refl, ◌∙◌, true≢false}
use Rattle.std.proofs.lemmas.Option.{slice_get_read}
use Rattle.acceptance.proofs.Cases.{token_test}
use Rattle.acceptance.specs.Stamping.{proof_time}
use Rattle.existence_times.specs.Kept.{row_stamp}
use Rattle.existence_times.proofs.Steps.{round_start, round_step}
use Rattle.existence_times.proofs.rounds.judge_all.Goals as goal

pub loop-left-init : goal.loop-left-init
loop-left-init c = (omega arith, round_start (token_test c.args.links.now.pool c.args.links.now.policy) (proof_time c.args.links.now.policy) (row_stamp c.args.tokens.now) c.args.stamps.now c.args.times.now, λ h. refl, refl)

pub judge_stamp-requires-clause-kept : goal.judge_stamp-requires-clause-kept
judge_stamp-requires-clause-kept c =
    let some = c.loop-left-test.true in
    let most = c.loop-left.invariant.0 in
    let lt : c.loop-left.left - 1 < length c.args.stamps.now = omega arith in
    c.requires.kept (c.loop-left.left - 1) c.index-stamps-left.result (slice_get_read c.args.stamps.now _ (c.loop-left.left - 1) c.index-stamps-left.result refl lt c.index-stamps-left.is)

pub loop-left-preserved-then-branch : goal.loop-left-preserved-then-branch
loop-left-preserved-then-branch c =
    let most = c.loop-left.invariant.0 in (
      omega arith,
      round_step (token_test c.args.links.now.pool c.args.links.now.policy) (proof_time c.args.links.now.policy) (row_stamp c.args.tokens.now) c.args.stamps.now c.loop-left.left c.index-stamps-left.result
          c.args.times.now c.loop-left.times c.judge_stamp.new.times c.loop-left-test.true most c.index-stamps-left.is c.loop-left.invariant.1 c.in_ok-judge_stamp.ensures.judged,
      λ h. absurd (true≢false h),
      c.in_ok-judge_stamp.ensures.len ∙ c.loop-left.invariant.3,
    )

pub loop-left-preserved : goal.loop-left-preserved
loop-left-preserved c =
    let most = c.loop-left.invariant.0 in (
      omega arith,
      round_step (token_test c.args.links.now.pool c.args.links.now.policy) (proof_time c.args.links.now.policy) (row_stamp c.args.tokens.now) c.args.stamps.now c.loop-left.left c.index-stamps-left.result
          c.args.times.now c.loop-left.times c.judge_stamp.new.times c.loop-left-test.true most c.index-stamps-left.is c.loop-left.invariant.1 c.in_ok-judge_stamp.ensures.judged,
      λ h. c.in_ok-judge_stamp.ensures.same c.if-branch.false ∙ c.loop-left.invariant.2 h,
      c.in_ok-judge_stamp.ensures.len ∙ c.loop-left.invariant.3,
    )
