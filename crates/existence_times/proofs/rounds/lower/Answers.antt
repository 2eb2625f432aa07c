use Rattle.std.proofs.Common.{◌<◌, ℤ, length, map, arith, sym, ap, ◌∙◌, to_z-of_z, to_z, of_z, w64, length-set}
use Rattle.std.proofs.lemmas.Option.{slice_get-get_or}
use Rattle.acceptance.specs.Rounds.{lowered}
use Rattle.existence_times.specs.Kept.{number_of}
use Rattle.existence_times.proofs.Steps.{each_object, lower_step, lowered-none}
use Rattle.existence_times.proofs.rounds.lower.Goals as goal

pub lower-requires : goal.lower-requires
lower-requires c =
    let long = c.loop-k.invariant.1 in
    let there = each_object (λ y. y < length c.args.times.now) c.args.covers.now c.requires c.loop-k.k _ (slice_get-get_or c.args.covers.now c.loop-k.k (record { number = 0 }) c.loop-k-test.true) in
    omega (arith, there)

pub loop-k-preserved : goal.loop-k-preserved
loop-k-preserved c = (
  lower_step (to_z w64 (of_z w64 c.args.bound)) c.args.covers.now c.loop-k.times c.lower.new.self c.loop-k.k c.loop-k-test.true c.lower.ensures ∙ c.loop-k.invariant.0,
  ap length c.lower.ensures ∙ length-set _ _ _ ∙ c.loop-k.invariant.1,
)

pub returns-clause-lowered : goal.returns-clause-lowered
returns-clause-lowered c =
    sym (lowered-none (to_z w64 (of_z w64 c.args.bound)) c.args.covers.now c.loop-k.times c.loop-k.k c.loop-k-test.false) ∙ c.loop-k.invariant.0
    ∙ ap (λ (z : ℤ). lowered z (map number_of c.args.covers.now) c.args.times.now) (to_z-of_z c.ranges.bound)
