use Rattle.std.proofs.Common.{◌≡◌, ◌∙◌, ℤ, sym, ap, length, map, replicate, to_z-of_z, to_z, of_z, w64}
use Rattle.std.proofs.lemmas.List.{length-replicate}
use Rattle.acceptance.proofs.Cases.{token_test}
use Rattle.acceptance.specs.Rounds.{round, rounds}
use Rattle.acceptance.specs.Stamping.{proof_time}
use Rattle.existence_times.specs.Kept.{row_stamp}
use Rattle.existence_times.proofs.Reached.{rounds-more, rounds-none, at_the_end, when_stable}
use Rattle.existence_times.proofs.rounds.settle.Goals as goal

pub loop-init : goal.loop-init
loop-init c = (
  c.requires.times ∙ ap (replicate (length c.args.links.now.pool)) (sym (to_z-of_z c.ranges.now))
      ∙ sym (rounds-none (token_test c.args.links.now.pool c.args.links.now.policy) (proof_time c.args.links.now.policy) (map (row_stamp c.args.tokens.now) c.args.stamps.now) (replicate (length c.args.links.now.pool) (to_z w64 (of_z w64 c.args.now)))),
  ap length c.requires.times ∙ length-replicate (length c.args.links.now.pool) c.args.now,
)

pub loop-preserved : goal.loop-preserved
loop-preserved c = (
  c.in_ok-judge_all.ensures.judged
      ∙ ap (round (token_test c.args.links.now.pool c.args.links.now.policy) (proof_time c.args.links.now.policy) (map (row_stamp c.args.tokens.now) c.args.stamps.now)) c.loop.invariant.0
      ∙ sym (rounds-more (token_test c.args.links.now.pool c.args.links.now.policy) (proof_time c.args.links.now.policy) (map (row_stamp c.args.tokens.now) c.args.stamps.now) c.loop.counter (replicate (length c.args.links.now.pool) (to_z w64 (of_z w64 c.args.now)))),
  c.in_ok-judge_all.ensures.len ∙ c.loop.invariant.1,
)

pub returns-then-not-branch : goal.returns-then-not-branch
returns-then-not-branch c =
    let reached : c.loop.times ≡ rounds (token_test c.args.links.now.pool c.args.links.now.policy) (proof_time c.args.links.now.policy) (map (row_stamp c.args.tokens.now) c.args.stamps.now) c.loop.counter (replicate (length c.args.links.now.pool) c.args.now) =
    c.loop.invariant.0 ∙ ap (λ (z : ℤ). rounds (token_test c.args.links.now.pool c.args.links.now.policy) (proof_time c.args.links.now.policy) (map (row_stamp c.args.tokens.now) c.args.stamps.now) c.loop.counter (replicate (length c.args.links.now.pool) z)) (to_z-of_z c.ranges.now) in
    when_stable c.args.links.now.pool c.args.links.now.policy c.args.tokens.now c.args.stamps.now c.args.now c.requires.kept c.loop.times c.judge_all.new.times c.loop.counter reached
    c.in_ok-judge_all.ensures.judged (c.in_ok-judge_all.ensures.same c.if-not-branch.true)

pub returns : goal.returns
returns c =
    let reached : c.loop.times ≡ rounds (token_test c.args.links.now.pool c.args.links.now.policy) (proof_time c.args.links.now.policy) (map (row_stamp c.args.tokens.now) c.args.stamps.now) c.loop.counter (replicate (length c.args.links.now.pool) c.args.now) =
    c.loop.invariant.0 ∙ ap (λ (z : ℤ). rounds (token_test c.args.links.now.pool c.args.links.now.policy) (proof_time c.args.links.now.policy) (map (row_stamp c.args.tokens.now) c.args.stamps.now) c.loop.counter (replicate (length c.args.links.now.pool) z)) (to_z-of_z c.ranges.now) in
    at_the_end c.args.links.now.pool c.args.links.now.policy c.args.tokens.now c.args.stamps.now c.args.now c.requires.kept c.loop.times c.loop.counter c.loop-test.false c.loop.auto.counter-end reached
