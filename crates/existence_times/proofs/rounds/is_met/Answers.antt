use Rattle.std.proofs.Common.{◌≡◌, ◌<◌, ◌≤ℤ◌, get_or, length, arith, refl, sym, subst, ⊎_elim, true≢false, to_z-of_z, to_z, of_z, w64, ℤ, SFits}
use Rattle.std.proofs.lemmas.Bool.{cases_lt}
use Rattle.std.proofs.lemmas.Int.{ints}
use Rattle.std.proofs.lemmas.Option.{slice_get-get_or, slice_get_within}
use Rattle.acceptance.specs.Walks.{time}
use Rattle.cert_paths.specs.declared.object.ObjectId.{ObjectId}
use Rattle.existence_times.proofs.Steps.{all_objects, each_object, some_is}
use Rattle.existence_times.proofs.rounds.is_met.Goals as goal

pub time-requires : goal.time-requires
time-requires c =
    each_object (λ y. y < length c.args.times.now) c.args.covers.now c.requires c.loop-k.k _ (slice_get-get_or c.args.covers.now c.loop-k.k (record { number = 0 }) c.loop-k-test.true)

pub returns-then-time-bound : goal.returns-then-time-bound
returns-then-time-bound c =
    let then : SFits w64 c.time.result = record { sfits = c.time.type_inv } in
    let bound = to_z-of_z c.ranges.bound in
    let read = to_z-of_z then in
    let is = c.time.ensures in
    let above = c.if-time-bound.true in (
      λ h. absurd (true≢false (sym h)),
      λ all.
          let le = each_object (λ y. time c.args.times.now y ≤ℤ c.args.bound) c.args.covers.now all c.loop-k.k _ (slice_get-get_or c.args.covers.now c.loop-k.k (record { number = 0 }) c.loop-k-test.true) in
          grind (arith, ints, le, above, is, bound, read),
    )

pub loop-k-preserved : goal.loop-k-preserved
loop-k-preserved c j o lt at =
    let then : SFits w64 c.time.result = record { sfits = c.time.type_inv } in
    let read = to_z-of_z then in
    let is = c.time.ensures in
    let below = c.if-time-bound.false in
    ⊎_elim
    (λ before. c.loop-k.invariant j o before at)
    (λ from.
    let here : j ≡ c.loop-k.k = omega arith in
    let there = slice_get-get_or c.args.covers.now c.loop-k.k (record { number = 0 }) c.loop-k-test.true in
    let same = some_is c.args.covers.now j c.loop-k.k o _ here at there in
    let le : time c.args.times.now (get_or c.args.covers.now c.loop-k.k (record { number = 0 })).number ≤ℤ to_z w64 (of_z w64 c.args.bound) = grind (arith, ints, below, is, read) in
    subst (λ (x : ObjectId). time c.args.times.now x.number ≤ℤ to_z w64 (of_z w64 c.args.bound)) (sym same) le)
    (cases_lt j c.loop-k.k)

pub returns : goal.returns
returns c = (
  λ h. all_objects (λ y. time c.args.times.now y ≤ℤ c.args.bound) c.args.covers.now
      (λ j o at.
      let within = slice_get_within c.args.covers.now j o at in
      let end = c.loop-k-test.false in
      subst (λ (z : ℤ). time c.args.times.now o.number ≤ℤ z) (to_z-of_z c.ranges.bound) (c.loop-k.invariant j o (omega arith) at)),
  λ h. refl,
)
